-- Wire forms: what a form is, and what its combinators encode and read. FormLaws proves that both agree.
use Rattle.std.specs.Prelude.{◌≡◌, ℕ, ◌+◌, ◌*◌, List, [], ◌∷◌, ◌++◌, length, take, drop, Option, Some, None, Ok, Err, nat_lt, if◌then◌else◌}
use Rattle.mysql_wire.specs.declared.fault.FaultKind.TheVariants as kind
use Rattle.mysql_wire.specs.Reading.{Reading, IsTail, HasSize, then_read}

-- A wire form: which bytes encode a value, what reading returns, and that both agree.
pub record Form (A : Type 0) : Type 1 where
  -- how many bytes each value takes, if that is constant
  pub size : Option ℕ
  -- the bytes are an encoding of the value, and then the rest
  pub Spells : A → List ℕ → List ℕ → Type 0
  -- the result of reading the front of the bytes: the value and the rest, or the first fault
  pub reads : List ℕ → Reading A
  -- what is read has these bytes, and what has these bytes is read
  pub found : (v : A) (bytes rest : List ℕ) → reads bytes ≡ Ok (v, rest) → Spells v bytes rest
  pub only : (v : A) (bytes rest : List ℕ) → Spells v bytes rest → reads bytes ≡ Ok (v, rest)
  -- reading takes a front of the bytes, and leaves the rest
  pub front : (v : A) (bytes rest : List ℕ) → reads bytes ≡ Ok (v, rest) → IsTail rest bytes
  -- reading takes a fixed number of bytes, if the size is constant
  pub sized : HasSize size reads

-- a form whose values have this size
abbrev pub with_size : {A : Type 0} (size : Option ℕ) (Spells : A → List ℕ → List ℕ → Type 0) (reads : List ℕ → Reading A)
    → ((v : A) (bytes rest : List ℕ) → reads bytes ≡ Ok (v, rest) → Spells v bytes rest)
    → ((v : A) (bytes rest : List ℕ) → Spells v bytes rest → reads bytes ≡ Ok (v, rest))
    → ((v : A) (bytes rest : List ℕ) → reads bytes ≡ Ok (v, rest) → IsTail rest bytes)
    → HasSize size reads
    → Form A
with_size size Spells reads found only front sized = record {
  size = size;
  Spells = Spells;
  reads = reads;
  found = found;
  only = only;
  front = front;
  sized = sized;
}

-- a form whose values have no constant size
abbrev pub any_size : {A : Type 0} (Spells : A → List ℕ → List ℕ → Type 0) (reads : List ℕ → Reading A)
    → ((v : A) (bytes rest : List ℕ) → reads bytes ≡ Ok (v, rest) → Spells v bytes rest)
    → ((v : A) (bytes rest : List ℕ) → Spells v bytes rest → reads bytes ≡ Ok (v, rest))
    → ((v : A) (bytes rest : List ℕ) → reads bytes ≡ Ok (v, rest) → IsTail rest bytes)
    → Form A
any_size Spells reads found only front = with_size None Spells reads found only front tt

-- ---- one form, and then another that may depend on the first one's value

module _ {A B : Type 0} (f : Form A) (g : A → Form B) where
  -- the bytes of a value of the first form, and then those of the second
  abbrev pub then_Spells : B → List ℕ → List ℕ → Type 0
  then_Spells v bytes rest = (x : A) × (mid : List ℕ) × f.Spells x bytes mid × (g x).Spells v mid rest

  abbrev pub then_reads : List ℕ → Reading B
  then_reads bytes = then_read (f.reads bytes) (λ x mid. (g x).reads mid)

-- ---- a given number of bytes

module _ (n : ℕ) where
  -- the content is that many bytes, at the front
  abbrev pub bytes_Spells : List ℕ → List ℕ → List ℕ → Type 0
  bytes_Spells c bytes rest = (length c ≡ n) × (bytes ≡ c ++ rest)

  -- that many bytes, if they are present
  abbrev pub bytes_reads : List ℕ → Reading (List ℕ)
  bytes_reads bytes = if nat_lt (length bytes) n then Err kind.UnexpectedEof else Ok (take n bytes, drop n bytes)

-- ---- a value computed from another

module _ {A B : Type 0} (make : A → B) (f : Form A) where
  -- the bytes of a value from which the value is computed
  abbrev pub map_Spells : B → List ℕ → List ℕ → Type 0
  map_Spells v bytes rest = (x : A) × (make x ≡ v) × f.Spells x bytes rest

  abbrev pub map_reads : List ℕ → Reading B
  map_reads bytes = then_read (f.reads bytes) (λ x rest. Ok (make x, rest))

-- ---- a value from a table; anything else is invalid data

-- the value; or an error if there is none
abbrev pub looked_up : {B : Type 0} → Option B → List ℕ → Reading B
looked_up None rest = Err kind.InvalidData
looked_up (Some v) rest = Ok (v, rest)

module _ {A B : Type 0} (table : A → Option B) (f : Form A) where
  -- the bytes of a value with this entry in the table
  abbrev pub decode_Spells : B → List ℕ → List ℕ → Type 0
  decode_Spells v bytes rest = (x : A) × (table x ≡ Some v) × f.Spells x bytes rest

  abbrev pub decode_reads : List ℕ → Reading B
  decode_reads bytes = then_read (f.reads bytes) (λ x rest. looked_up (table x) rest)

-- ---- a value whose bytes are the whole of a part, such as a block

-- the value, if no byte of the part is left
abbrev pub ended : {A : Type 0} → A → List ℕ → List ℕ → Reading A
ended v [] rest = Ok (v, rest)
ended v (b ∷ bs) rest = Err kind.InvalidData

-- what was read of the part, all of it, and the bytes after the part
abbrev pub whole : {A : Type 0} → Reading A → List ℕ → Reading A
whole (Ok x) rest = ended x.0 x.1 rest
whole (Err e) rest = Err e

module _ {A : Type 0} (part : Form (List ℕ)) (f : Form A) where
  -- the bytes of a part whose content, with nothing after it, encodes the value
  abbrev pub within_Spells : A → List ℕ → List ℕ → Type 0
  within_Spells v bytes rest = (inside : List ℕ) × part.Spells inside bytes rest × f.Spells v inside []

  abbrev pub within_reads : List ℕ → Reading A
  within_reads bytes = then_read (part.reads bytes) (λ inside rest. whole (f.reads inside) rest)

-- ---- a value whose bytes begin a part; the part's other bytes are ignored

module _ {A : Type 0} (part : Form (List ℕ)) (f : Form A) where
  -- the bytes of a part whose content encodes the value, followed by any bytes
  abbrev pub beginning_Spells : A → List ℕ → List ℕ → Type 0
  beginning_Spells v bytes rest = (inside : List ℕ) × (ignored : List ℕ) × part.Spells inside bytes rest × f.Spells v inside ignored

  abbrev pub beginning_reads : List ℕ → Reading A
  beginning_reads bytes = then_read (part.reads bytes) (λ inside rest. then_read (f.reads inside) (λ v ignored. Ok (v, rest)))

-- ---- numbers

-- the sum of byte i times 256 ^ i
abbrev pub le_value : List ℕ → ℕ
le_value [] = 0
le_value (b ∷ bs) = b + 256 * le_value bs
