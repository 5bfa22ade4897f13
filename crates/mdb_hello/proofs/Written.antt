-- Writing a table of fields part by part.
use Rattle.std.proofs.Common.{◌≡◌, List, [], ◌∷◌, ◌++◌, refl, sym, ap, ◌∙◌, append_assoc}
use Rattle.mdb_base.specs.Document.{Field}
use Rattle.mdb_hello.specs.Groups.{five, reply_greeting, reply_membership, reply_role, reply_state, reply_election, reply_limits}
use Rattle.mdb_hello.specs.Reply.{written}
use Rattle.mdb_hello.specs.Table.{Row, Values, written_slot, written_rows}
use Rattle.mdb_hello.specs.declared.response.HelloCommandResponse.{HelloCommandResponse}
use Rattle.mdb_hello.proofs.Tables.{joined, five_added}

written_append : (xs ys : List Row) (v : Values xs) (w : Values ys) → written_rows (xs ++ ys) (joined xs ys (v, w)) ≡ written_rows xs v ++ written_rows ys w
written_append [] ys v w = refl
written_append (x ∷ xs) ys v w =
    let slot = written_slot x.required x.kind x.name v.0 in
    ap (λ more. slot ++ more) (written_append xs ys v.1 w) ∙ sym (append_assoc slot (written_rows xs v.1) (written_rows ys w))

abbrev from20 : List Row
from20 = five 20 ++ five 25

abbrev from15 : List Row
from15 = five 15 ++ from20

abbrev from10 : List Row
from10 = five 10 ++ from15

abbrev from5 : List Row
from5 = five 5 ++ from10

abbrev values20 : HelloCommandResponse → Values from20
values20 r = joined (five 20) (five 25) (reply_election r, reply_limits r)

abbrev values15 : HelloCommandResponse → Values from15
values15 r = joined (five 15) from20 (reply_state r, values20 r)

abbrev values10 : HelloCommandResponse → Values from10
values10 r = joined (five 10) from15 (reply_role r, values15 r)

abbrev values5 : HelloCommandResponse → Values from5
values5 r = joined (five 5) from10 (reply_membership r, values10 r)

pub written_in_groups : (r : HelloCommandResponse) → written r
    ≡ written_rows (five 0) (reply_greeting r) ++ (written_rows (five 5) (reply_membership r) ++ (written_rows (five 10) (reply_role r)
    ++ (written_rows (five 15) (reply_state r) ++ (written_rows (five 20) (reply_election r) ++ written_rows (five 25) (reply_limits r)))))
written_in_groups r =
    written_append (five 0) from5 (reply_greeting r) (values5 r)
    ∙ ap (λ more. written_rows (five 0) (reply_greeting r) ++ more) (written_append (five 5) from10 (reply_membership r) (values10 r)
    ∙ ap (λ more. written_rows (five 5) (reply_membership r) ++ more) (written_append (five 10) from15 (reply_role r) (values15 r)
    ∙ ap (λ more. written_rows (five 10) (reply_role r) ++ more) (written_append (five 15) from20 (reply_state r) (values20 r)
    ∙ ap (λ more. written_rows (five 15) (reply_state r) ++ more) (written_append (five 20) (five 25) (reply_election r) (reply_limits r)))))

-- six parts added one after the other
pub all_written : (r : HelloCommandResponse) (a b c d e f : List Field) → a ≡ written_rows (five 0) (reply_greeting r) → b ≡ a ++ written_rows (five 5) (reply_membership r)
    → c ≡ b ++ written_rows (five 10) (reply_role r) → d ≡ c ++ written_rows (five 15) (reply_state r) → e ≡ d ++ written_rows (five 20) (reply_election r)
    → f ≡ e ++ written_rows (five 25) (reply_limits r) → f ≡ written r
all_written r a b c d e f ea eb ec ed ee ef =
    five_added a (written_rows (five 5) (reply_membership r)) (written_rows (five 10) (reply_role r)) (written_rows (five 15) (reply_state r)) (written_rows (five 20) (reply_election r))
    (written_rows (five 25) (reply_limits r)) b c d e f eb ec ed ee ef
    ∙ ap (λ first. first ++ (written_rows (five 5) (reply_membership r) ++ (written_rows (five 10) (reply_role r) ++ (written_rows (five 15) (reply_state r)
    ++ (written_rows (five 20) (reply_election r) ++ written_rows (five 25) (reply_limits r)))))) ea
    ∙ sym (written_in_groups r)
