-- The sent bytes of parameters and attributes.
use Rattle.std.proofs.Common.{◌≡◌, ℕ, ◌+◌, ◌*◌, Bool, true, false, not, if◌then◌else◌, List, [], ◌∷◌, ◌++◌, length, map, position, Option, Some, is_some, cond, append_assoc, refl, ap, ◌∙◌, arith}
use Rattle.std.specs.List.{flat_map, position_or_len}
use Rattle.std.specs.Prelude.{unwrap_or}
use Rattle.std.proofs.lemmas.List.{append-nil, length-append, length-map}
use Rattle.std.proofs.lemmas.List.Concat.{flat_map-append}
use Rattle.std.proofs.lemmas.List.Folds.{flat_map-map}
use Rattle.mysql_wire.specs.LenEnc.{lenenc_string_bytes}
use Rattle.mysql_wire.specs.Writing.{le_bytes}
use Rattle.mysql_values.specs.ParamType.{param_type, type_of}
use Rattle.mysql_values.specs.ParamValue.{Plain, WithOffset, param_spelled}
use Rattle.mysql_values.specs.Value.{Content, NULL, Bytes, Int, UInt, Float, Double, Date, Time, bin}
use Rattle.mysql_values.specs.declared.param_type.ParamType.{ParamType}
use Rattle.mysql_stmt.specs.ExecuteParam.{Param, Sent, SentAhead, AsSent, param_bytes, sent, value_of}
use Rattle.mysql_stmt.specs.SentParam.{bound_bytes, bytes_under, first_unspelled, is_left_out, is_spelled, is_spelled_under, sent_param, sent_params, type_bytes, value_bytes}
use Rattle.mysql_stmt.specs.ExecuteRead.{TypedParam}
use Rattle.mysql_stmt.specs.SentTypes.{NamedType}

-- ---- values without chosen types

-- the type of a value encodes it in its binary form
own-type : (v : Content) → param_spelled (type_of v) (Plain v) ≡ Some (bin v)
own-type NULL = refl
own-type (Bytes bytes) = refl
own-type (Int n) = refl
own-type (UInt n) = refl
own-type (Float bits) = refl
own-type (Double bits) = refl
own-type (Date date) = refl
own-type (Time time) = refl

pub plain-spelled : (p : Param) → is_spelled_under (type_of (value_of p)) p ≡ true
plain-spelled (Sent (Plain v)) = ap is_some (own-type v)
plain-spelled (Sent (WithOffset date)) = refl
plain-spelled SentAhead = refl
plain-spelled (AsSent has_null_bit bytes) = refl

-- only a byte string is left out
left-out : (l : Bool) (v : Content) → (if is_left_out l (Plain v) then [] else bin v) ≡ sent l v
left-out false v = refl
left-out true NULL = refl
left-out true (Bytes bytes) = refl
left-out true (Int n) = refl
left-out true (UInt n) = refl
left-out true (Float bits) = refl
left-out true (Double bits) = refl
left-out true (Date date) = refl
left-out true (Time time) = refl

pub plain-bytes : (l : Bool) (p : Param) → bytes_under l (type_of (value_of p)) p ≡ param_bytes l p
plain-bytes l (Sent (Plain v)) = ap (λ (spelled : Option (List ℕ)). if is_left_out l (Plain v) then [] else unwrap_or spelled []) (own-type v) ∙ left-out l v
plain-bytes true (Sent (WithOffset date)) = refl
plain-bytes false (Sent (WithOffset date)) = refl
plain-bytes l SentAhead = refl
plain-bytes l (AsSent has_null_bit bytes) = refl

-- ---- types

pub length-type : (t : ParamType) → length (param_type.bytes t) ≡ 2
unfolding param_type le_bytes
length-type t = refl

pub length-typed : (p : TypedParam) → length (type_bytes false p) ≡ 2
length-typed p = omega (arith, length-append (param_type.bytes p.named_type.param_type) [], length-type p.named_type.param_type)

pub length-named : (p : TypedParam) → length (type_bytes true p) ≡ 2 + length (lenenc_string_bytes p.named_type.name)
length-named p = omega (arith, length-append (param_type.bytes p.named_type.param_type) (lenenc_string_bytes p.named_type.name), length-type p.named_type.param_type)

pub length-types : (ps : List TypedParam) → length (flat_map (type_bytes false) ps) ≡ 2 * length ps
length-types [] = refl
length-types (p ∷ ps) = omega (arith, length-append (type_bytes false p) (flat_map (type_bytes false) ps), length-typed p, length-types ps)

position-mapped : {A B : Type 0} (p : B → Bool) (f : A → B) (xs : List A) → position_or_len p (map f xs) ≡ position_or_len (λ x. p (f x)) xs
position-mapped p f [] = refl
position-mapped p f (x ∷ xs) = ap (λ (n : ℕ). cond (not (p (f x))) (1 + n) 0) (position-mapped p f xs)

-- ---- lists of values of a type of the caller's

module _ {V : Type 0} (param : V → Param) (named_type : V → NamedType) where
  pub types-sent : (has_names : Bool) (vs : List V) → flat_map (λ v. type_bytes has_names (sent_param param named_type v)) vs ≡ flat_map (type_bytes has_names) (sent_params param named_type vs)
  types-sent has_names [] = refl
  types-sent has_names (v ∷ vs) = ap (λ (l : List ℕ). type_bytes has_names (sent_param param named_type v) ++ l) (types-sent has_names vs)

  pub values-sent : (l : Bool) (vs : List V) → flat_map (λ v. value_bytes l (sent_param param named_type v)) vs ≡ flat_map (value_bytes l) (sent_params param named_type vs)
  values-sent l [] = refl
  values-sent l (v ∷ vs) = ap (λ (bytes : List ℕ). value_bytes l (sent_param param named_type v) ++ bytes) (values-sent l vs)

  pub length-sent : (vs : List V) → length (sent_params param named_type vs) ≡ length vs
  length-sent vs = length-map vs (sent_param param named_type)

  pub length-unnamed : (has_names : Bool) (vs : List V) → has_names ≡ false → length (flat_map (λ v. type_bytes has_names (sent_param param named_type v)) vs) ≡ 2 * length vs
  length-unnamed has_names vs is = rw is (ap length (types-sent false vs) ∙ length-types (sent_params param named_type vs) ∙ ap (λ (n : ℕ). 2 * n) (length-sent vs))

  pub first-sent : (vs : List V) → first_unspelled (sent_params param named_type vs) ≡ position (λ v. not (is_spelled_under (named_type v).param_type (param v))) vs
  first-sent vs =
      let unspelled : TypedParam → Bool = λ p. not (is_spelled p) in
      let same = position-mapped unspelled (sent_param param named_type) vs in
      rw (same, length-sent vs) refl

module _ {V A : Type 0} (param : V → Param) (named_type : V → NamedType) (attribute : A → Param) (attribute_type : A → NamedType) where
  -- part by part, as they are written
  pub bound-parts : (nulls : List ℕ) (follow names l : Bool) (vs : List V) (added : List A) (flag : ℕ) (typed : List V) (typed_added : List A)
      → flag ≡ (if follow then 1 else 0) → typed ≡ (if follow then vs else []) → typed_added ≡ (if follow then added else [])
      → bound_bytes nulls follow names l (sent_params param named_type vs) (sent_params attribute attribute_type added)
      ≡ nulls ++ (le_bytes 1 flag ++ (flat_map (λ v. type_bytes names (sent_param param named_type v)) typed ++ (flat_map (λ a. type_bytes names (sent_param attribute attribute_type a)) typed_added
      ++ (flat_map (λ v. value_bytes l (sent_param param named_type v)) vs ++ (flat_map (λ a. value_bytes false (sent_param attribute attribute_type a)) added ++ [])))))
  bound-parts nulls true names l vs added flag typed typed_added is_flag is_typed is_added =
      rw (
        is_flag,
        is_typed,
        is_added,
        types-sent param named_type names vs,
        types-sent attribute attribute_type names added,
        values-sent param named_type l vs,
        values-sent attribute attribute_type false added,
        flat_map-append (type_bytes names) (sent_params param named_type vs) (sent_params attribute attribute_type added),
      )
      (simp (append-nil, append_assoc))
  bound-parts nulls false names l vs added flag typed typed_added is_flag is_typed is_added =
      rw (is_flag, is_typed, is_added, values-sent param named_type l vs, values-sent attribute attribute_type false added) (simp append-nil)

pub ruleset plain = (plain-spelled, plain-bytes)

pub ruleset written = (plain-bytes, append-nil, length-typed, length-named, length-types, types-sent, length-sent)

pub ruleset first_of = (first-sent)

pub ruleset cells = (flat_map-map)
