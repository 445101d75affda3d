-- The codecs of the wire forms, and combinators for packets. Each packet's file uses the names that are exported here.
pub use Rattle.mysql_wire.specs.Codec.{Codec, Fields}
pub use Rattle.mysql_wire.specs.Int.{raw_int}
use Rattle.std.specs.Prelude.{◌≡◌, ℕ, ◌+◌, ◌<◌, ◌≤◌, ◌^◌, List, [], ◌∷◌, length, replicate, take, Option, Bool, true, false, refl}
use Rattle.std.proofs.Common.{◌⊎◌}
use Rattle.std.specs.List.{flat_map}
use Rattle.std.proofs.lemmas.List.{length-replicate}
use Rattle.mysql_wire.specs.declared.constant.ConstU8.{ConstU8}
use Rattle.mysql_wire.specs.declared.constant_value.Const.{Const}
use Rattle.mysql_wire.specs.declared.flags.FlagWord.{FlagWord}
use Rattle.mysql_wire.specs.declared.int.RawInt.{RawInt}
use Rattle.mysql_wire.specs.declared.little_endian.LeU16.{LeU16}
use Rattle.mysql_wire.specs.declared.little_endian.LeU24.{LeU24}
use Rattle.mysql_wire.specs.declared.little_endian.LeU32.{LeU32}
use Rattle.mysql_wire.specs.declared.little_endian.LeU64.{LeU64}
use Rattle.mysql_wire.specs.declared.skip.Skip.{Skip}
use Rattle.mysql_wire.specs.Form as form
use Rattle.mysql_wire.specs.Form.{Form}
use Rattle.mysql_wire.specs.Again.{lenenc-again, lenenc_string-again}
use Rattle.mysql_wire.specs.BytesAgain.{null_string-again, bytes-again, const_bytes-again, u8_string-again, u32_string-again}
use Rattle.mysql_wire.specs.Constant.{const_byte}
use Rattle.mysql_wire.specs.Flags.{flag_word, flag_word-again}
use Rattle.mysql_wire.specs.Int.{raw, number_of, le_u64}
use Rattle.mysql_wire.specs.LenEnc.{lenenc_string, lenenc_string_bytes}
use Rattle.mysql_wire.specs.LittleEndian.{length-le_bytes}
use Rattle.mysql_wire.specs.Many.{many}
use Rattle.mysql_wire.specs.Optional.{optional_bytes}
use Rattle.mysql_wire.specs.Bare as bare_form
use Rattle.mysql_wire.specs.ConstBytes as const_form
use Rattle.mysql_wire.specs.ConstantValue as value_form
use Rattle.mysql_wire.specs.CountedBytes.{u8_string, u8_string_bytes, u32_string, u32_string_bytes}
use Rattle.mysql_wire.specs.declared.const_bytes.ConstBytes.{ConstBytes}
use Rattle.mysql_wire.specs.declared.constant.ConstU32.{ConstU32}
use Rattle.mysql_wire.specs.declared.lenenc.LenEnc.{LenEnc}
use Rattle.mysql_wire.specs.Constant as constant_form
use Rattle.mysql_wire.specs.LenEnc as lenenc_form
use Rattle.mysql_wire.specs.Null.{HasNoZero, null_string, null_bytes}
use Rattle.mysql_wire.specs.Seq as seq_form
use Rattle.mysql_wire.specs.Seq.{counted}
use Rattle.mysql_wire.specs.Skip as skip_form
use Rattle.mysql_wire.specs.Spelling.{IsSpelling, number-again, raw-again, const_byte-again, const_u32-again, skip-again}
use Rattle.mysql_wire.specs.Writing.{le_bytes}
use Rattle.mysql_wire.specs.CodecFits.{then_bytes, then_fits, option_len, option_fits, choice_of, choice_bytes, choice_len, choice_fits, each_fits, is_there, if_left_fits}
use Rattle.mysql_wire.specs.CodecAgain as law

-- ---- fields, in layout order

abbrev pub give : {C P A : Type 0} → A → Fields C P A
give x = record {
  form = λ c. form.give x;
  value = λ p. x;
  bytes = λ p. [];
  len = λ p. 0;
  fits = λ c p rest. Unit {0};
  exact = λ c p rest h. refl;
  again = λ c p rest h. (refl, refl);
}

infixl 10 ◌>>=◌
abbrev pub ◌>>=◌ : {C P A B : Type 0} → Fields C P A → (A → Fields C P B) → Fields C P B
f >>= g = record {
  form = λ c. form.◌>>=◌ (f.form c) (λ a. (g a).form c);
  value = λ p. (g (f.value p)).value p;
  bytes = then_bytes f g;
  len = λ p. f.len p + (g (f.value p)).len p;
  fits = then_fits f g;
  exact = law.then-exact f g;
  again = law.then-again f g;
}

-- the field of a packet, with its codec
abbrev pub field : {C P A : Type 0} → (P → A) → Codec C A → Fields C P A
field get f = record {
  form = f.form;
  value = get;
  bytes = λ p. f.bytes (get p);
  len = λ p. f.len (get p);
  fits = λ c p rest. f.fits c (get p) rest;
  exact = λ c p rest h. f.exact c (get p) rest h;
  again = λ c p rest h. f.again c (get p) rest h;
}

-- fields in a block of a given length
abbrev pub block : {C P A : Type 0} (n : ℕ) (f : Fields C P A) → ((p : P) → f.len p ≡ n) → Fields C P A
block n f is_n = record {
  form = λ c. form.block n (f.form c);
  value = f.value;
  bytes = f.bytes;
  len = f.len;
  fits = λ c p rest. f.fits c p [];
  exact = λ c p rest h. f.exact c p [] h;
  again = law.block_of-again n f is_n;
}

-- the packet with all its fields
abbrev pub packet : {C P : Type 0} (f : Fields C P P) → ((p : P) → f.value p ≡ p) → Codec C P
packet f same = record {
  form = f.form;
  bytes = f.bytes;
  len = f.len;
  fits = f.fits;
  exact = f.exact;
  again = law.packet-again f same;
}

-- ---- parts of a packet

-- a part whose reader gets another context
abbrev pub with_context : {C D A : Type 0} → (C → D) → Codec D A → Codec C A
with_context tell f = record {
  form = λ c. f.form (tell c);
  bytes = f.bytes;
  len = f.len;
  fits = λ c a rest. f.fits (tell c) a rest;
  exact = λ c a rest h. f.exact (tell c) a rest h;
  again = λ c a rest h. f.again (tell c) a rest h;
}

-- a part whose reader gets no context
abbrev pub without_context : {C A : Type 0} → Codec (Unit {0}) A → Codec C A
without_context f = with_context (λ c. tt) f

-- a value from the reader's context, which has no bytes
abbrev pub from_context : {C A : Type 0} → (C → A) → Codec C A
from_context of_reader = record {
  form = λ c. form.give (of_reader c);
  bytes = λ a. [];
  len = λ a. 0;
  fits = λ c a rest. a ≡ of_reader c;
  exact = λ c a rest h. refl;
  again = λ c a rest h. (h, refl);
}

-- a part that is present exactly if the flag is set
abbrev pub when : {C A : Type 0} → (C → Bool) → Codec C A → Codec C (Option A)
when flag f = record {
  form = λ c. form.when (flag c) (f.form c);
  bytes = optional_bytes f.bytes;
  len = option_len f;
  fits = λ c o rest. option_fits f (flag c) c o rest;
  exact = λ c o rest h. law.option-exact f (flag c) c o rest h;
  again = λ c o rest h. law.option-again f (flag c) c o rest h;
}

-- one codec or the other
abbrev pub one_of : {C A : Type 0} → Bool → Codec C A → Codec C A → Codec C A
one_of true left right = left
one_of false left right = right

-- a left part exactly if the test says so, otherwise a right one
abbrev pub either : {C P A B X : Type 0} (test : C → Bool) (part : P → A ⊎ B) (of_left : A → X) (l : Codec C A) (of_right : B → X) (r : Codec C B) → Fields C P X
either test part of_left l of_right r = record {
  form = λ c. form.either (test c) (form.map of_left (l.form c)) (form.map of_right (r.form c));
  value = λ p. choice_of of_left of_right l r (part p);
  bytes = λ p. choice_bytes of_left of_right l r (part p);
  len = λ p. choice_len of_left of_right l r (part p);
  fits = λ c p rest. choice_fits of_left of_right l r (test c) c (part p) rest;
  exact = λ c p rest h. law.choice-exact of_left of_right l r (test c) c (part p) rest h;
  again = λ c p rest h. law.choice-again of_left of_right l r (test c) c (part p) rest h;
}

-- a given number of values
abbrev pub list_of : {C A : Type 0} → ℕ → Codec C A → Codec C (List A)
list_of n f = record {
  form = λ c. counted n (f.form c);
  bytes = λ xs. flat_map f.bytes xs;
  len = λ xs. length (flat_map f.bytes xs);
  fits = λ c xs rest. (length xs ≡ n) × each_fits f c xs rest;
  exact = λ c xs rest h. refl;
  again = law.so_many-again f n;
}

-- values to the end of the bytes, each of at least one byte
abbrev pub list_to_end : {C A : Type 0} (f : Codec C A) → ((x : A) → 0 < f.len x) → Codec C (List A)
list_to_end f some = record {
  form = λ c. many (f.form c);
  bytes = λ xs. flat_map f.bytes xs;
  len = λ xs. length (flat_map f.bytes xs);
  fits = λ c xs rest. (rest ≡ []) × each_fits f c xs [];
  exact = λ c xs rest h. refl;
  again = law.many-again f some;
}

-- ---- leaves

-- a form whose values fit, or don't, independently of what follows
abbrev pub leaf : {C A : Type 0} (f : Form A) (bytes : A → List ℕ) (len : A → ℕ) (Fits : A → Type 0)
    → ((a : A) → Fits a → length (bytes a) ≡ len a) → ((a : A) → Fits a → IsSpelling f a (bytes a)) → Codec C A
leaf f bytes len Fits exact again = record {
  form = λ c. f;
  bytes = bytes;
  len = len;
  fits = λ c a rest. Fits a;
  exact = λ c a rest h. exact a h;
  again = λ c a rest h. again a h rest;
}

-- a number with a given number of bytes, little-endian
abbrev pub int : {C R : Type 0} → ℕ → Codec C (RawInt R ℕ)
int {R} width = leaf (raw (form.number width)) (λ n. le_bytes width n.0) (λ n. width) (λ n. n.0 < 256 ^ width)
    (λ n h. length-le_bytes width n.0) (λ n h. raw-again R (form.number width) n.0 (le_bytes width n.0) (number-again width n.0 h))

abbrev pub u8 : {C : Type 0} → Codec C (RawInt ℕ ℕ)
u8 = int 1

abbrev pub u16 : {C : Type 0} → Codec C (RawInt LeU16 ℕ)
u16 = int 2

abbrev pub u24 : {C : Type 0} → Codec C (RawInt LeU24 ℕ)
u24 = int 3

abbrev pub u32 : {C : Type 0} → Codec C (RawInt LeU32 ℕ)
u32 = int 4

abbrev pub u64 : {C : Type 0} → Codec C (RawInt LeU64 ℕ)
u64 = int 8

-- a flag word with a given number of bytes
abbrev pub flags : {C N U : Type 0} → ℕ → Codec C (Const (FlagWord N ℕ) U)
flags width = leaf (flag_word width) (λ v. le_bytes width v.0.0) (λ v. width) (λ v. v.0.0 < 256 ^ width)
    (λ v h. length-le_bytes width v.0.0) (λ v h. flag_word-again width v h)

-- a byte with a constant value
abbrev pub const_u8 : {C T : Type 0} (value : ℕ) → Codec C (ConstU8 T value)
const_u8 value = leaf (const_byte value) (λ v. value ∷ []) (λ v. 1) (λ v. Unit {0})
    (λ v h. refl) (λ v h. const_byte-again value v)

-- bytes with any values, written as zeros
abbrev pub skip : {C : Type 0} (n : ℕ) → Codec C (Skip n)
skip n = leaf (skip_form.skip n) (λ v. replicate n 0) (λ v. n) (λ v. Unit {0})
    (λ v h. length-replicate n 0) (λ v h. skip-again n v)

-- a given number of bytes
abbrev pub byte_array : {C : Type 0} → ℕ → Codec C (List ℕ)
byte_array n = leaf (form.bytes n) (λ content. content) (λ content. n) (λ content. length content ≡ n)
    (λ content h. h) (bytes-again n)

-- a byte string after its length
abbrev pub string_lenenc : {C : Type 0} → Codec C (List ℕ)
string_lenenc = leaf lenenc_string lenenc_string_bytes (λ content. length (lenenc_string_bytes content)) (λ content. length content < 2 ^ 64)
    (λ content h. refl) lenenc_string-again

-- a byte string terminated by a zero
abbrev pub string_null : {C : Type 0} → Codec C (List ℕ)
string_null = leaf null_string null_bytes (λ content. length (null_bytes content)) HasNoZero (λ content h. refl) null_string-again

-- the rest of the bytes
abbrev pub string_eof : {C : Type 0} → Codec C (List ℕ)
string_eof = record {
  form = λ c. form.all_left;
  bytes = λ content. content;
  len = λ content. length content;
  fits = λ c content rest. rest ≡ [];
  exact = λ c content rest h. refl;
  again = λ c content rest h. law.all_left-again content rest h;
}

-- a number of four bytes with a constant value
abbrev pub const_u32 : {C T : Type 0} (value : ℕ) → Codec C (ConstU32 T value)
const_u32 value = leaf (constant_form.const_le_u32 value) (λ v. le_bytes 4 value) (λ v. 4) (λ v. value < 2 ^ 32)
    (λ v h. length-le_bytes 4 value) (λ v h. const_u32-again value v h)

-- constant bytes
abbrev pub const_bytes : {C T : Type 0} (n : ℕ) (value : List ℕ) → Codec C (ConstBytes T n)
const_bytes n value = leaf (const_form.const_bytes n value) (λ v. value) (λ v. n) (λ v. length value ≡ n)
    (λ v h. h) (λ v h. const_bytes-again n value v h)

-- a byte that is a value's code
abbrev pub coded : {C X U : Type 0} (code : X → ℕ) (of_code : ℕ → Option X)
    → ((v : Const X U) → IsSpelling (value_form.coded of_code (form.number 1)) v (le_bytes 1 (code v.0))) → Codec C (Const X U)
coded code of_code again = leaf (value_form.coded of_code (form.number 1)) (λ v. le_bytes 1 (code v.0)) (λ v. 1) (λ v. Unit {0})
    (λ v h. length-le_bytes 1 (code v.0)) (λ v h. again v)

-- a length-encoded number
abbrev pub int_lenenc : {C : Type 0} → Codec C (RawInt LenEnc ℕ)
int_lenenc = leaf (raw lenenc_form.lenenc) (λ n. lenenc_form.lenenc_bytes n.0) (λ n. length (lenenc_form.lenenc_bytes n.0)) (λ n. n.0 < 2 ^ 64)
    (λ n h. refl) (λ n h. raw-again LenEnc lenenc_form.lenenc n.0 (lenenc_form.lenenc_bytes n.0) (lenenc-again n.0 h))

-- a byte string after a length of one byte, and of four
abbrev pub string_u8 : {C : Type 0} → Codec C (List ℕ)
string_u8 = leaf u8_string u8_string_bytes (λ content. length (u8_string_bytes content)) (λ content. length content < 2 ^ 8) (λ content h. refl) u8_string-again

abbrev pub string_u32 : {C : Type 0} → Codec C (List ℕ)
string_u32 = leaf u32_string u32_string_bytes (λ content. length (u32_string_bytes content)) (λ content. length content < 2 ^ 32) (λ content h. refl) u32_string-again

-- as many bytes as a number that was read before says; at most this many are written
abbrev pub string_bare : {C : Type 0} (most n : ℕ) → Codec C (List ℕ)
string_bare most n = leaf (bare_form.bare n) (take most) (λ content. length (take most content)) (λ content. (length content ≡ n) × (n ≤ most))
    (λ content h. refl) (λ content h. law.bare_at-again most n content h)

-- a count of eight bytes, and a given number of values
abbrev pub u64_counted_list : {C A : Type 0} → Codec C A → Codec C (List A)
u64_counted_list f = record {
  form = λ c. seq_form.seq (number_of le_u64) (f.form c);
  bytes = seq_form.seq_bytes (le_bytes 8) f.bytes;
  len = λ xs. length (seq_form.seq_bytes (le_bytes 8) f.bytes xs);
  fits = λ c xs rest. (length xs < 2 ^ 64) × each_fits f c xs rest;
  exact = λ c xs rest h. refl;
  again = law.u64_list-again f;
}

-- a part that is present exactly if bytes are left
abbrev pub if_bytes_left : {C A : Type 0} (f : Codec C A) → ((a : A) → 0 < f.len a) → Codec C (Option A)
if_bytes_left f some = record {
  form = λ c. form.looking (λ bytes. form.when (is_there bytes) (f.form c));
  bytes = optional_bytes f.bytes;
  len = option_len f;
  fits = if_left_fits f;
  exact = law.if_left-exact f;
  again = law.if_left-again f some;
}
