use Rattle.mdb_audit.proofs.LegalTexts.{legal-text}
use Rattle.mdb_audit.proofs.laws.legal_logs_have_legal_texts.Goals as goal

pub returns : goal.returns
returns c = legal-text
