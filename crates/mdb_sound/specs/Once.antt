-- What always holds of a party, in truth values and numbers: whether it asked, took, was granted a connection, ended, is queued and has a connection; and how often it asked, was granted one and ended.
use Rattle.std.specs.Prelude.{ℕ, ◌≡◌, Bool, true, false, not, ◌&&◌, ◌||◌}
use Rattle.mdb_log.specs.Connections.{one_if}

pub record Once (has_asked has_taken was_granted has_ended is_queued has_one : Bool) (askings grantings endings : ℕ) : Type 0 where
  pub asked_once : askings ≡ one_if has_asked
  pub granted_once : grantings ≡ one_if was_granted
  pub ended_once : endings ≡ one_if has_ended
  pub granted_asked : was_granted ≡ true → has_asked ≡ true
  pub ended_asked : has_ended ≡ true → has_asked ≡ true
  pub queued_means : is_queued ≡ has_asked && (not was_granted && not has_ended)
  pub one_way : has_asked && has_taken ≡ false
  pub had : has_one ≡ true → was_granted || has_taken ≡ true
