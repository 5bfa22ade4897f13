-- What the TXT records of a name set, as a connection string has it.
use Rattle.std.specs.Prelude.{◌≡◌, ℕ, ◌==◌, List, [], ◌∷◌, ◌++◌, codes, Bool, true, false, Option, Some, None, option_map, Result, Ok, Err, IsUtf8, if◌then◌else◌}
use Rattle.mdb_srv.specs.Txt.{configured, plain_config}
use Rattle.mdb_srv.specs.declared.config.ResolvedConfig.{ResolvedConfig}
use Rattle.mdb_srv.specs.declared.resolver.TxtRecord.{TxtRecord}

-- a record of one piece
abbrev pub txt_record : List ℕ → TxtRecord
txt_record text = record { txt_data = text ∷ [] }

-- So many records with this text. Of more than two it does not matter how many there are.
abbrev pub txt_records : ℕ → List ℕ → List TxtRecord
txt_records count text =
    if count == 0 then [] else if count == 1 then txt_record text ∷ [] else txt_record text ∷ txt_record text ∷ []

abbrev pub flag_text : Bool → List ℕ
flag_text true = codes "true"
flag_text false = codes "false"

-- an option behind `&`, if it is set
abbrev pub option_text : List ℕ → Option (List ℕ) → List ℕ
option_text name None = []
option_text name (Some value) = name ++ value

-- the options that are set, each behind `&`
abbrev pub options_text : ResolvedConfig → List ℕ
options_text config =
    option_text (codes "&authSource=") config.auth_source
    ++ (option_text (codes "&replicaSet=") config.replica_set ++ option_text (codes "&loadBalanced=") (option_map flag_text config.load_balanced))

-- What so many TXT records of the name set comes to this: a configuration that says nothing else, or the text of the refusal.
abbrev pub SetsOptions : List ℕ → ℕ → List ℕ → Result ResolvedConfig (List ℕ) → Type 0
SetsOptions name count text answer = IsUtf8 name × (configured name (txt_records count text) (plain_config [] 0) ≡ answer)

-- the text of what the records set
abbrev pub answer_text : Result ResolvedConfig (List ℕ) → List ℕ
answer_text (Ok config) = options_text config
answer_text (Err text) = text
