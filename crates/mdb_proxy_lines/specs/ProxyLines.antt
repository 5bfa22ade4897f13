-- The lines of a proxy script, and what they spell.
use Rattle.std.specs.Prelude.{◌≡◌, ℕ, ◌<◌, ◌≤◌, ◌^◌, Bool, true, ◌&&◌, nat_lt, List, ◌++◌, length, codes, decimal, IsTrue}
use Rattle.std.specs.List.{list_all}
use Rattle.mdb_base.specs.Spelling.{address}
use Rattle.mdb_base.specs.AddressRule.{is_address}
use Rattle.mdb_log.specs.declared.step.Act.TheVariants.{Collect as Collects}
use Rattle.mdb_parts.specs.Parts.{commas}
use Rattle.mdb_lines.specs.Grammar.{is_act, is_printable}
use Rattle.mdb_lines.specs.Spelling.{spelling, use_text}
use Rattle.mdb_lines.specs.Types.{IsActOfTypes}
use Rattle.mdb_proxies.specs.Passing.{is_passed}
use Rattle.mdb_proxies.specs.declared.step.ProxyAct.{ProxyAct}
use Rattle.mdb_proxies.specs.declared.step.ProxyAct.TheVariants.{Ask, Collect, Finish, Pass}
use Rattle.mdb_proxies.specs.declared.step.ProxyStep.{ProxyStep}

-- ---- the first line

-- a share is a number of 32 bits above 0
abbrev pub is_share : ℕ → Bool
is_share n = nat_lt 0 n && nat_lt n (2 ^ 32)

-- the first line: the shares, with commas between them
abbrev pub shares_text : List ℕ → List ℕ
shares_text shares = codes "shares=" ++ commas decimal shares

-- The line, given without its newline, names the shares of 1 to 64 tenants.
pub record SpellsShares (line : List ℕ) (shares : List ℕ) : Type 0 where
  pub some : 0 < length shares
  pub few : length shares ≤ 64
  pub each : list_all is_share shares ≡ true
  pub printable : IsTrue (is_printable line)
  pub text : line ≡ shares_text shares

-- ---- the lines from the third on

abbrev pub act_text : ℕ → ProxyAct → List ℕ
act_text m (Ask t r a) = codes "ask " ++ (decimal m ++ (codes " " ++ (decimal t ++ (codes " " ++ (decimal r ++ (codes " " ++ address a))))))
act_text m (Collect r) = spelling (record { moment = m; act = Collects r })
act_text m (Finish r used) = codes "finish " ++ (decimal m ++ (codes " " ++ (decimal r ++ (codes " " ++ use_text used))))
act_text m (Pass act) = spelling (record { moment = m; act = act })

-- a step as it is spelled
abbrev pub step_text : ProxyStep → List ℕ
step_text s = act_text s.moment s.act

-- the numbers of the act are those of its types
abbrev pub IsOfTypes : ProxyAct → Type 0
IsOfTypes (Ask t r a) = (t < 2 ^ 32) × (r < 2 ^ 32)
IsOfTypes (Collect r) = r < 2 ^ 32
IsOfTypes (Finish r used) = r < 2 ^ 32
IsOfTypes (Pass act) = IsActOfTypes act

-- the act keeps the rules of the grammar, and is one that is passed where it is handed on as it is
abbrev pub keeps_rules : ℕ → ProxyAct → Bool
keeps_rules m (Ask t r a) = is_address a
keeps_rules m (Collect r) = true
keeps_rules m (Finish r used) = true
keeps_rules m (Pass act) = is_passed act && is_act m act

-- The line, given without its newline, spells the step.
pub record SpellsStep (line : List ℕ) (s : ProxyStep) : Type 0 where
  pub moment : s.moment < 2 ^ 64
  pub types : IsOfTypes s.act
  pub rules : keeps_rules s.moment s.act ≡ true
  pub printable : IsTrue (is_printable line)
  pub text : line ≡ step_text s
