-- How often an ask is handed on.
use Rattle.std.specs.Prelude.{ℕ, ◌+◌, ◌≤◌, if◌then◌else◌, List, [], ◌∷◌, ⊤}
use Rattle.mdb_log.specs.declared.log.Entry.{Entry}
use Rattle.mdb_proxies.specs.declared.asked.Asked.{Asked}
use Rattle.mdb_proxies.specs.Charge.{requests, since}

-- how many of the entries are the request, whatever their replies
abbrev pub times_requested : ℕ → List Entry → ℕ
times_requested r [] = 0
times_requested r (e ∷ es) = if requests r e.step.act then times_requested r es + 1 else times_requested r es

-- Once: each of the asks was handed on by at most one entry since it was made.
abbrev pub AreOnce : List Entry → List Asked → Type 0
AreOnce log [] = ⊤
AreOnce log (x ∷ xs) = (times_requested x.request (since log x) ≤ 1) × AreOnce log xs
