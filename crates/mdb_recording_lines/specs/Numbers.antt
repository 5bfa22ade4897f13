-- Numbers of JSON.
use Rattle.std.specs.Prelude.{ℕ, ◌+◌, ◌-◌, ◌*◌, ◌^◌, Bool, ◌&&◌, nat_lt, nat_le, List, [], ◌∷◌, length, take, drop, Option, Some, None, is_some, if◌then◌else◌}
use Rattle.mdb_base.specs.AddressReading.{until, beyond}

abbrev pub is_digit : ℕ → Bool
is_digit b = nat_le 48 b && nat_le b 57

-- The whole number that digits make behind so much; none of other bytes, nor past 64 bits.
abbrev pub whole : ℕ → List ℕ → Option ℕ
whole n [] = Some n
whole n (b ∷ bs) = if is_digit b && nat_lt (n * 10 + (b - 48)) (2 ^ 64) then whole (n * 10 + (b - 48)) bs else None

-- a number of 64 bits
abbrev pub fit : ℕ → Option ℕ
fit n = if nat_lt n (2 ^ 64) then Some n else None

abbrev pub times : ℕ → Option ℕ → Option ℕ
times by None = None
times by (Some n) = fit (n * by)

abbrev pub plus : Option ℕ → Option ℕ → Option ℕ
plus (Some a) (Some b) = fit (a + b)
plus _ _ = None

-- the digits behind a point as millionths: the first six count
abbrev pub millionths : List ℕ → Option ℕ
millionths ds = if nat_le (length ds) 6 then times (10 ^ (6 - length ds)) (whole 0 ds) else (if is_some (whole 0 (drop 6 ds)) then whole 0 (take 6 ds) else None)

abbrev pub behind_point : List ℕ → Option ℕ
behind_point [] = Some 0
behind_point (point ∷ ds) = millionths ds

-- seconds as microseconds: digits, and a point and digits behind it
abbrev pub micros : List ℕ → Option ℕ
micros text = plus (times 1000000 (whole 0 (until 46 text))) (behind_point (beyond 46 text))
