-- The opening of seeds is accepted, for a refused one opens none.
use Rattle.std.proofs.Common.{◌≡◌, ◌<◌, List, [], ◌∷◌, length, refl, arith}
use Rattle.std.proofs.lemmas.List.Sorted.{length_permutation}
use Rattle.mdb_base.specs.declared.address.ServerAddress.{ServerAddress}
use Rattle.mdb_base.specs.declared.options.Options.{Options}
use Rattle.mdb_log.specs.declared.step.Step.{Step}
use Rattle.mdb_log.specs.declared.step.Act.{Act}
use Rattle.mdb_log.specs.declared.step.Act.TheVariants.{Open}
use Rattle.mdb_log.specs.declared.log.Entry.{Entry}
use Rattle.mdb_log.specs.declared.reply.Reply.{Reply}
use Rattle.mdb_log.specs.declared.reply.Reply.TheVariants.{Refused}
use Rattle.mdb_events.specs.declared.fact.Fact.{Fact}
use Rattle.mdb_log.specs.History.{with_answer}
use Rattle.mdb_log.specs.Own.{IsAccepted}
use Rattle.mdb_log.specs.LegalLog.{numbered, OpensSeeds, BeginsLegal, BeginsWith, IsLegalLog}
use Rattle.mdb_histories.specs.Opened.{BeginsAccepted, HasSeeds, BeginsWithSeeds}

none-opened : (list : List ServerAddress) → [] ≡ numbered 0 list → length list ≡ 0
none-opened [] e = refl
none-opened (a ∷ more) e = cc

opening : (o : Options) (step : Step) (reply : Reply) (facts : List Fact) → 0 < length o.seeds → OpensSeeds o (with_answer step reply facts []) → IsAccepted reply
opening o step (Refused why) facts l w =
    let none : length w.list ≡ 0 = none-opened w.list w.opened in
    let same : length w.list ≡ length o.seeds = length_permutation o.seeds w.list w.same in
    absurd (omega arith)
opening o step _ facts l w = tt

begins : (act : Act) (e : Entry) (log : List Entry) → HasSeeds act → BeginsWith act e log → IsAccepted e.reply
begins (Open o) e log l b = let begun : BeginsLegal o e log = b in opening o e.step e.reply e.facts l begun.opens
begins _ e log l b = absurd b

pub opening-accepted : (log : List Entry) → IsLegalLog log → BeginsWithSeeds log → BeginsAccepted log
opening-accepted [] l s = tt
opening-accepted (e ∷ log) l s = begins e.step.act e log s l
