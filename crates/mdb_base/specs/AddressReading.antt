-- Reading words and addresses from left to right. The crate's own reading of a text is stated by until, beyond, after and number_of. address_of may take more than the rule; crates above state theirs by it, and compare what is read with its spelling.
use Rattle.std.specs.Prelude.{◌≡◌, ℕ, ◌^◌, ◌==◌, ◌&&◌, nat_lt, List, [], ◌∷◌, length, Option, Some, None, Result, Ok, Err, if◌then◌else◌, codes}
use Rattle.std.specs.List.{list_all}
use Rattle.std.specs.Char.{digit_value}
use Rattle.std.specs.Str.Parse.{without_leading_plus, digits_value}
use Rattle.mdb_base.specs.declared.address.ServerAddress.{ServerAddress}
use Rattle.mdb_base.specs.declared.address_parse.AddressError.{AddressError}
use Rattle.mdb_base.specs.declared.address_parse.AddressError.TheVariants.{BadAddress, OutOfMemory}

-- what stands before the first such byte, and what stands from it on
unfoldable pub until : ℕ → List ℕ → List ℕ
until c [] = []
until c (b ∷ bs) = if b == c then [] else b ∷ until c bs

unfoldable pub beyond : ℕ → List ℕ → List ℕ
beyond c [] = []
beyond c (b ∷ bs) = if b == c then b ∷ bs else beyond c bs

-- what stands after a name
unfoldable pub after : List ℕ → List ℕ → Option (List ℕ)
after [] bytes = Some bytes
after (n ∷ ns) [] = None
after (n ∷ ns) (b ∷ bs) = if b == n then after ns bs else None

-- a number of at most so many bits
unfoldable pub number_of : ℕ → List ℕ → Option ℕ
number_of k bytes =
    let ds = without_leading_plus bytes in
    if nat_lt 0 (length ds) && (list_all (λ c. nat_lt (digit_value c) 10) ds && nat_lt (digits_value 10 ds) (2 ^ k)) then Some (digits_value 10 ds) else None

infixl 10 ◌>>=◌
abbrev pub ◌>>=◌ : {A B : Type 0} → Option A → (A → Option B) → Option B
(Some x) >>= f = f x
None >>= f = None

-- What a function returned is what reading gives, unless memory ran out.
abbrev pub Fails : {Y : Type 0} → AddressError → Option Y → Type 0
Fails BadAddress read = read ≡ None
Fails OutOfMemory read = Unit {0}

abbrev pub Gives : {Y : Type 0} → Result Y AddressError → Option Y → Type 0
Gives (Ok x) read = read ≡ Some x
Gives (Err e) read = Fails e read

-- the port behind a colon, or the default where nothing is left
abbrev pub port_from : List ℕ → Option (List ℕ) → Option ℕ
port_from rest (Some digits) = number_of 16 digits
port_from rest None = if length rest == 0 then Some 27017 else None

unfoldable pub port_of : List ℕ → Option ℕ
port_of rest = port_from rest (after (codes ":") rest)

-- what stands after an opening bracket decides
abbrev pub address_from : List ℕ → Option (List ℕ) → Option ServerAddress
address_from word None = do
  n ← port_of (beyond 58 word)
  Some (record { host = until 58 word; port = n })
address_from word (Some inner) = do
  rest ← after (codes "]") (beyond 93 inner)
  n ← port_of rest
  Some (record { host = until 93 inner; port = n })

unfoldable pub address_of : List ℕ → Option ServerAddress
address_of word = address_from word (after (codes "[") word)
