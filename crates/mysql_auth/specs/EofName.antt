-- A name that runs to the end of the bytes, maybe with a zero at its end.
use Rattle.std.specs.Prelude.{◌≡◌, ℕ, ◌+◌, ◌-◌, ◌==◌, ◌&&◌, List, [], ◌∷◌, ◌++◌, length, take, slice_index, nat_lt, if◌then◌else◌, Bool, refl}
use Rattle.std.proofs.Common.{arith}
use Rattle.std.proofs.lemmas.Bool.{lt-ltb}
use Rattle.std.proofs.lemmas.List.{append-nil, length-append, take_at}
use Rattle.mysql_wire.specs.BytesAgain.{before_zero-whole}
use Rattle.mysql_wire.specs.Codec.{Codec}
use Rattle.mysql_wire.specs.Form.{Form, map, all_left}
use Rattle.mysql_wire.specs.Null.{HasNoZero, null_bytes}

abbrev pub ends_in_zero : List ℕ → Bool
ends_in_zero bytes = nat_lt 0 (length bytes) && slice_index bytes (length bytes - 1) == 0

-- the bytes, without one zero at their end
abbrev pub without_last_zero : List ℕ → List ℕ
without_last_zero bytes = if ends_in_zero bytes then take (length bytes - 1) bytes else bytes

at-end : (content : List ℕ) → slice_index (content ++ 0 ∷ []) (length content) ≡ 0
at-end [] = refl
at-end (b ∷ content) = at-end content

-- a zero after a content is removed
pub zero-off : (content : List ℕ) → without_last_zero (content ++ 0 ∷ []) ≡ content
zero-off content =
    let longer : length (content ++ 0 ∷ []) ≡ length content + 1 = length-append content (0 ∷ []) in
    let before : length content + 1 - 1 ≡ length content = omega arith in
    rw (longer, before, at-end content, lt-ltb 0 (length content + 1) (omega arith), take_at content (0 ∷ []) (length content) refl) refl

-- the rest of the bytes, without one zero at their end
abbrev pub name_left : Form (List ℕ)
name_left = map without_last_zero all_left

pub name-again : (content rest : List ℕ) → HasNoZero content × (rest ≡ []) → name_left.Spells content (null_bytes content ++ rest) rest
name-again content rest h = rw (h.1, before_zero-whole content h.0, append-nil) (content ++ 0 ∷ [], zero-off content, (refl, refl))

-- a name to the end, written with a terminating zero
abbrev pub eof_name : {C : Type 0} → Codec C (List ℕ)
eof_name = record {
  form = λ c. name_left;
  bytes = null_bytes;
  len = λ content. length (null_bytes content);
  fits = λ c content rest. HasNoZero content × (rest ≡ []);
  exact = λ c content rest h. refl;
  again = λ c content rest h. name-again content rest h;
}
