-- Each form of a command is written as it was read: its bytes are those that were read, if each of these is
-- a byte.
use Rattle.std.proofs.Common.{◌≡◌, ℕ, zero, suc, ◌+◌, ◌*◌, ◌<◌, ◌≤◌, ◌^◌, ◌==◌, if◌then◌else◌, Bool, true, false, List, [], ◌∷◌, ◌++◌, take, length, Option, Some, None, refl, sym, ap, subst, ◌∙◌, append_assoc, arith, eqb-true}
use Rattle.std.proofs.lemmas.List.{append-nil}
use Rattle.std.proofs.Math.Nat.{pow-suc}
use Rattle.std.specs.Int.{byte_at, bytes_low_first}
use Rattle.mysql_wire.specs.Codec.{Codec}
use Rattle.mysql_wire.specs.Constant.{const_byte}
use Rattle.mysql_wire.specs.ConstantValue.{coded}
use Rattle.mysql_wire.specs.CountedBytes.{u8_string, u8_string_bytes, counted_bytes, counted_bytes_of}
use Rattle.mysql_wire.specs.Flags.{flag_word}
use Rattle.mysql_wire.specs.Form.{Form, ◌>>=◌, give, block, all_left, bytes, number, le_value}
use Rattle.mysql_wire.specs.Int.{raw}
use Rattle.mysql_wire.specs.LittleEndian.{value-le_bytes, length-le_bytes}
use Rattle.mysql_wire.specs.Null.{null_string, null_bytes, before_zero, HasNoZero}
use Rattle.mysql_wire.specs.Writing.{le_bytes}
use Rattle.mysql_wire.specs.declared.constant.ConstU8.{ConstU8}
use Rattle.mysql_wire.specs.declared.constant_value.Const.{Const}
use Rattle.mysql_wire.specs.declared.flags.FlagWord.{FlagWord}
use Rattle.mysql_wire.specs.declared.int.RawInt.{RawInt}
use Rattle.mysql_commands.specs.AsRead.{AreBytes, Exact}

-- ---- bytes

pub bytes-after : (front rest : List ℕ) → AreBytes (front ++ rest) → AreBytes rest
bytes-after [] rest h = h
bytes-after (b ∷ front) rest h = bytes-after front rest h.1

pub bytes-before : (front rest : List ℕ) → AreBytes (front ++ rest) → AreBytes front
bytes-before [] rest h = tt
bytes-before (b ∷ front) rest h = (h.0, bytes-before front rest h.1)

pub bytes-left : (a before mid : List ℕ) → AreBytes before → a ++ mid ≡ before → AreBytes mid
bytes-left a before mid h e = bytes-after a mid (subst AreBytes (sym e) h)

-- numbers of the same width are equal if their values are
one-number : (a b : List ℕ) → AreBytes a → AreBytes b → length a ≡ length b → le_value a ≡ le_value b → a ≡ b
one-number [] [] ha hb len e = refl
one-number [] (y ∷ b) ha hb len e = absurd (omega (arith, len))
one-number (x ∷ a) [] ha hb len e = absurd (omega (arith, len))
one-number (x ∷ a) (y ∷ b) ha hb len e =
    let first : x ≡ y = omega (arith, e, ha.0, hb.0) in
    let others : le_value a ≡ le_value b = omega (arith, e, ha.0, hb.0) in
    rw (first, one-number a b ha.1 hb.1 (omega (arith, len)) others) refl

low-byte : (i n : ℕ) → byte_at i n < 256
low-byte zero n = omega arith
low-byte (suc i) n = omega arith

low-bytes : (i k n : ℕ) → AreBytes (bytes_low_first i k n)
low-bytes i zero n = tt
low-bytes i (suc k) n = (low-byte i n, low-bytes (suc i) k n)

le-bytes : (k n : ℕ) → AreBytes (le_bytes k n)
unfolding le_bytes
le-bytes k n = low-bytes 0 k n

value-below : (c : List ℕ) → AreBytes c → le_value c < 256 ^ length c
value-below [] h = omega arith
value-below (x ∷ c) h =
    let others : le_value c < 256 ^ length c = value-below c h.1 in
    let power : 256 ^ suc (length c) ≡ 256 ^ length c * 256 = pow-suc 256 (length c) in
    omega (arith, others, power, h.0)

-- ---- parts one after another

pub then-exact : (a b before mid rest : List ℕ) → a ++ mid ≡ before → b ++ rest ≡ mid → (a ++ b) ++ rest ≡ before
then-exact a b before mid rest e f = append_assoc a b rest ∙ ap (λ (l : List ℕ). a ++ l) f ∙ e

pub in-block : (n : ℕ) (written inside before rest : List ℕ) → AreBytes before → (bytes n).Spells inside before rest → (AreBytes inside → written ++ [] ≡ inside) → written ++ rest ≡ before
unfolding bytes
in-block n written inside before rest h s e =
    let small : AreBytes inside = bytes-before inside rest (subst AreBytes s.1 h) in
    ap (λ (l : List ℕ). l ++ rest) (sym (append-nil written) ∙ e small) ∙ sym s.1

-- a form whose parts are written as they were read: the bytes of the parts of what was read, which are those that were read
pub record PartsAsRead (A : Type 0) (f : Form A) : Type 0 where
  pub bytes : (v : A) (before rest : List ℕ) → f.Spells v before rest → List ℕ
  pub exact : (v : A) (before rest : List ℕ) → AreBytes before → (s : f.Spells v before rest) → bytes v before rest s ++ rest ≡ before

-- one part
abbrev pub part : {A : Type 0} {f : Form A} (written : A → List ℕ) → Exact f written → PartsAsRead A f
part written exact = record { bytes = λ v before rest s. written v; exact = exact }

-- a part, and then others
abbrev pub parts : {A B : Type 0} {f : Form A} {g : A → Form B} → PartsAsRead A f → ((x : A) → PartsAsRead B (g x)) → PartsAsRead B (f >>= g)
parts first next = record {
  bytes = λ v before rest s. first.bytes s.0 before s.1 s.2 ++ (next s.0).bytes v s.1 rest s.3;
  exact = λ v before rest h s.
      let front = first.exact s.0 before s.1 h s.2 in
      then-exact _ _ before s.1 rest front ((next s.0).exact v s.1 rest (bytes-left _ before s.1 h front) s.3);
}

-- no other part
abbrev pub no_part : {A : Type 0} (x : A) → PartsAsRead A (give x)
no_part x = record { bytes = λ v before rest s. []; exact = λ v before rest h s. sym s.1 }

-- parts in a block
abbrev pub in_block : {A : Type 0} {f : Form A} (n : ℕ) → PartsAsRead A f → PartsAsRead A (block n f)
in_block n inside = record {
  bytes = λ v before rest s. inside.bytes v s.0 [] s.2;
  exact = λ v before rest h s. in-block n _ s.0 before rest h s.1 (λ small. inside.exact v s.0 [] small s.2);
}

-- a packet whose bytes are those of its parts
pub as-read : {C A : Type 0} (codec : Codec C A) (c : C) (read : PartsAsRead A (codec.form c))
    → ((v : A) (before rest : List ℕ) (s : (codec.form c).Spells v before rest) → codec.bytes v ≡ read.bytes v before rest s) → Exact (codec.form c) codec.bytes
as-read codec c read same v before rest h s = rw (same v before rest s) (read.exact v before rest h s)

-- ---- leaves

one-byte-of : (c : List ℕ) → length c ≡ 1 → le_value c ∷ [] ≡ c
one-byte-of [] e = absurd (omega (arith, e))
one-byte-of (b ∷ []) e = let same : b + 256 * 0 ≡ b = omega arith in ap (λ (n : ℕ). n ∷ []) same
one-byte-of (b ∷ d ∷ c) e = absurd (omega (arith, e))

the-constant : {T : Type 0} (test : Bool) (value : ℕ) (v : ConstU8 T value) → (if test then Some (record { 0 = record {} }) else None) ≡ Some v → test ≡ true
the-constant true value v e = refl
the-constant false value v e = absurd cc

pub const-exact : {T : Type 0} (value : ℕ) → Exact (const_byte {T = T} value) (λ v. value ∷ [])
unfolding const_byte number bytes
const-exact {T} value v before rest h s =
    let is : s.0 ≡ value = eqb-true _ _ (the-constant (s.0 == value) value v s.1) in
    let c = s.2.0 in
    let read : le_value c ≡ value = s.2.1 ∙ is in
    ap (λ (n : ℕ). n ∷ rest) (sym read) ∙ ap (λ (l : List ℕ). l ++ rest) (one-byte-of c s.2.2.0) ∙ sym s.2.2.1

pub number-exact : (width : ℕ) → Exact (number width) (le_bytes width)
unfolding number bytes
number-exact width n before rest h s =
    let c = s.0 in
    let small : AreBytes c = bytes-before c rest (subst AreBytes s.2.1 h) in
    let below : n < 256 ^ width = rw (← s.1, ← s.2.0) (value-below c small) in
    let same : le_bytes width n ≡ c = one-number (le_bytes width n) c (le-bytes width n) small (length-le_bytes width n ∙ sym s.2.0) (value-le_bytes width n below ∙ sym s.1) in
    ap (λ (l : List ℕ). l ++ rest) same ∙ sym s.2.1

pub raw-exact : (R : Type 0) (width : ℕ) → Exact (raw {R = R} (number width)) (λ n. le_bytes width n.0)
unfolding raw
raw-exact R width v before rest h s =
    let is : s.0 ≡ v.0 = ap (λ (n : RawInt R ℕ). n.0) s.1 in
    rw (← is) (number-exact width s.0 before rest h s.2)

bits-of : {N U : Type 0} → Option (Const (FlagWord N ℕ) U) → ℕ
bits-of None = 0
bits-of (Some v) = v.0.0

pub flags-exact : (N U : Type 0) (width : ℕ) → Exact (flag_word {N = N} {U = U} width) (λ v. le_bytes width v.0.0)
unfolding coded bits-of
flags-exact N U width v before rest h s =
    let is : s.0 ≡ v.0.0 = ap bits-of s.1 in
    rw (← is) (number-exact width s.0 before rest h s.2)

no-zero : (content : List ℕ) → HasNoZero content → before_zero content ≡ content
unfolding before_zero
no-zero [] h = refl
no-zero (zero ∷ content) h = absurd h
no-zero (suc b ∷ content) h = ap (λ (l : List ℕ). suc b ∷ l) (no-zero content h)

pub null-exact : Exact null_string null_bytes
unfolding null_string
null-exact content before rest h s = rw (no-zero content s.0, append_assoc) (sym s.1)

pub left-exact : Exact all_left (λ content. content)
left-exact content before rest h s = rw (s.1, append-nil) (sym s.0)

take-all : (n : ℕ) (content : List ℕ) → length content ≤ n → take n content ≡ content
take-all zero [] le = refl
take-all zero (b ∷ content) le = absurd (omega (arith, le))
take-all (suc n) [] le = refl
take-all (suc n) (b ∷ content) le = ap (λ (l : List ℕ). b ∷ l) (take-all n content (omega (arith, le)))

number-below : (width n : ℕ) (before rest : List ℕ) → AreBytes before → (number width).Spells n before rest → n < 256 ^ width
unfolding number bytes
number-below width n before rest h s =
    let small : AreBytes s.0 = bytes-before s.0 rest (subst AreBytes s.2.1 h) in
    rw (← s.1, ← s.2.0) (value-below s.0 small)

pub u8_string-exact : Exact u8_string u8_string_bytes
unfolding counted_bytes counted_bytes_of bytes raw
u8_string-exact content before rest h s =
    let header : le_bytes 1 s.2.0.0 ++ s.1 ≡ before = raw-exact ℕ 1 s.2.0 before s.1 h s.2.2 in
    let is : s.2.0.0 ≡ length content = s.2.1 ∙ sym s.3.0 in
    let value : s.2.2.0 ≡ s.2.0.0 = ap (λ (n : RawInt ℕ ℕ). n.0) s.2.2.1 in
    let below : s.2.2.0 < 256 ^ 1 = number-below 1 s.2.2.0 before s.1 h s.2.2.2 in
    let all : take 255 content ≡ content = take-all 255 content (omega (arith, below, value, is)) in
    rw (all, ← is) (then-exact (le_bytes 1 s.2.0.0) content before s.1 rest header (sym s.3.1))

-- ---- parts that are leaves

abbrev pub const_part : {T : Type 0} (value : ℕ) → PartsAsRead (ConstU8 T value) (const_byte value)
const_part value = part (λ v. value ∷ []) (const-exact value)

abbrev pub raw_part : {R : Type 0} (width : ℕ) → PartsAsRead (RawInt R ℕ) (raw (number width))
raw_part {R} width = part (λ n. le_bytes width n.0) (raw-exact R width)

abbrev pub flags_part : {N U : Type 0} (width : ℕ) → PartsAsRead (Const (FlagWord N ℕ) U) (flag_word width)
flags_part {N} {U} width = part (λ v. le_bytes width v.0.0) (flags-exact N U width)

abbrev pub null_part : PartsAsRead (List ℕ) null_string
null_part = part null_bytes null-exact

abbrev pub left_part : PartsAsRead (List ℕ) all_left
left_part = part (λ content. content) left-exact

abbrev pub u8_string_part : PartsAsRead (List ℕ) u8_string
u8_string_part = part u8_string_bytes u8_string-exact
