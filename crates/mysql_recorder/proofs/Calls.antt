-- Numbers of calls.
use Rattle.std.proofs.Common.{nat_eq, nat_le, codes, option_map, ◌++◌, ◌≡◌, ℕ, ◌<◌, ◌≤◌, ◌^◌, ◌&&◌, true, false, List, [], ◌∷◌, length, nat_lt, Bool, Result, Ok, Err, Option, Some, None, refl, ap, subst, ◌∙◌, sym, arith, zero, suc, drop, get_or, map, ◌+◌, if◌then◌else◌}
use Rattle.std.specs.Result.{result_ok}
use Rattle.std.proofs.lemmas.Bool.{and_parts, eqb-true}
use Rattle.std.proofs.lemmas.Grind.{common_steps}
use Rattle.std.specs.Result.{OkIff}
use Rattle.std.specs.Str.Parse.{AllDigits, IsNumeral, ParsesUnsigned, digits_value, without_leading_plus}
use Rattle.std.specs.List.{list_all}
use Rattle.std.proofs.lemmas.Str.Pattern.{starts_text}
use Rattle.std.specs.Str.{bytes_eq}
use Rattle.std.specs.Str.Pattern.{StripsPrefix, FindsTextPrefix, LacksTextAt}
use Rattle.mysql_recorder.specs.declared.program.Call.{Call}
use Rattle.std.proofs.lemmas.List.{drop_all}
use Rattle.mysql_recorder.specs.Calls.{asked_after, call_of, called, nothing_asked, Asked, asked_by, asked_number, deciphered, flags_in, in_json, is_digit, is_numeral, number_in, numeral_below, with_caps, with_longest, with_mariadb, with_sums}

all_digits : (radix : ℕ) (ds : List ℕ) → AllDigits radix ds → list_all (is_digit radix) ds ≡ true
all_digits radix [] h = refl
all_digits radix (c ∷ ds) h = let rest = all_digits radix ds h.1 in let first = h.0 in grind (arith, common_steps, first, rest)

are_digits : (radix : ℕ) (ds : List ℕ) → list_all (is_digit radix) ds ≡ true → AllDigits radix ds
are_digits radix [] h = tt
are_digits radix (c ∷ ds) h = let b = and_parts (is_digit radix c) (list_all (is_digit radix) ds) h in (grind (arith, common_steps, b.0), are_digits radix ds b.1)

none_where : (b : Bool) (v : ℕ) → (b ≡ true → ⊥) → None ≡ (if b then Some v else None)
none_where true v h = absurd (h refl)
none_where false v h = refl

numeral_given : {E : Type 0} (r : Result ℕ E) (radix bound : ℕ) (ds : List ℕ) → OkIff r (IsNumeral radix ds × (digits_value radix ds < bound)) (digits_value radix ds) → result_ok r ≡ numeral_below radix bound ds
numeral_given (Ok x) radix bound ds h =
    let all = all_digits radix ds h.0.0.1 in
    let some = h.0.0.0 in
    let small = h.0.1 in
    let yes : is_numeral radix ds && nat_lt (digits_value radix ds) bound ≡ true = grind (arith, common_steps, all, some, small) in
    rw yes (ap Some h.1)
numeral_given (Err e) radix bound ds h = none_where (is_numeral radix ds && nat_lt (digits_value radix ds) bound) (digits_value radix ds) (λ yes.
    let b = and_parts (is_numeral radix ds) (nat_lt (digits_value radix ds) bound) yes in
    let n = and_parts (nat_lt 0 (length ds)) (list_all (is_digit radix) ds) b.0 in
    h ((grind (arith, common_steps, n.0), are_digits radix ds n.1), grind (arith, common_steps, b.1)))

pub number_given : {E : Type 0} (r : Result ℕ E) (k radix : ℕ) (word : List ℕ) → ParsesUnsigned k radix word r → result_ok r ≡ number_in radix (2 ^ k) word
unfolding number_in
number_given r k radix word h = numeral_given r radix (2 ^ k) (without_leading_plus word) h

-- the next word of a list
pub next_of : {A B : Type 0} (f : A → B) (i : ℕ) (xs : List A) (d : A) → i < length xs → drop i (map f xs) ≡ f (get_or xs i d) ∷ drop (i + 1) (map f xs)
next_of f zero [] d h = absurd (omega (arith, h))
next_of f zero (x ∷ xs) d h = refl
next_of f (suc i) [] d h = absurd (omega (arith, h))
next_of f (suc i) (x ∷ xs) d h =
    let e : i + 1 ≡ suc i = omega arith in
    let next : suc (suc i) ≡ suc i + 1 = omega arith in
    next_of f i xs d (omega (arith, h)) ∙ ap (λ n. f (get_or xs i d) ∷ drop n (map f xs)) e ∙ ap (λ n. f (get_or xs i d) ∷ drop n (f x ∷ map f xs)) next

-- ---- words

same_bytes : (a b : List ℕ) → bytes_eq a b ≡ true → a ≡ b
same_bytes [] [] e = refl
same_bytes [] (y ∷ b) e = absurd (let no : false ≡ true = e in cc)
same_bytes (x ∷ a) [] e = absurd (let no : false ≡ true = e in cc)
same_bytes (x ∷ a) (y ∷ b) e =
    let parts = and_parts (nat_eq x y) (bytes_eq a b) e in
    let head : x ≡ y = eqb-true x y parts.0 in
    let tail : a ≡ b = same_bytes a b parts.1 in
    ap (λ z. z ∷ a) head ∙ ap (λ zs. y ∷ zs) tail

false_where : (b : Bool) → (b ≡ true → ⊥) → b ≡ false
false_where true h = absurd (h refl)
false_where false h = refl

other_bytes : (a b : List ℕ) → (a ≡ b → ⊥) → bytes_eq a b ≡ false
other_bytes a b h = false_where (bytes_eq a b) (λ e. h (same_bytes a b e))

asked_json : (word : List ℕ) (a : Asked) → word ≡ codes "--json" → asked_by word a ≡ Some (in_json a)
unfolding asked_by
asked_json word a e = subst (λ w. asked_by w a ≡ Some (in_json a)) (sym e) refl

asked_sum : (word : List ℕ) (a : Asked) → word ≡ codes "--sum" → asked_by word a ≡ Some (with_sums a)
unfolding asked_by
asked_sum word a e = subst (λ w. asked_by w a ≡ Some (with_sums a)) (sym e) refl

asked_deciphered : (word : List ℕ) (a : Asked) → word ≡ codes "--deciphered" → asked_by word a ≡ Some (deciphered a)
unfolding asked_by
asked_deciphered word a e = subst (λ w. asked_by w a ≡ Some (deciphered a)) (sym e) refl

asked_other : (word : List ℕ) (a : Asked) → (word ≡ codes "--json" → ⊥) → (word ≡ codes "--sum" → ⊥) → (word ≡ codes "--deciphered" → ⊥) → asked_by word a ≡ asked_number word a
unfolding asked_by
asked_other word a j s d = rw (other_bytes word (codes "--json") j, other_bytes word (codes "--sum") s, other_bytes word (codes "--deciphered") d) refl

-- what follows the front of a word
stripped : (front word digits : List ℕ) → StripsPrefix (FindsTextPrefix front) word digits → word ≡ front ++ digits
stripped front word digits h = h.1.1 ∙ ap (λ xs. front ++ xs) (sym h.2)

number_caps : (word digits : List ℕ) (a : Asked) → StripsPrefix (FindsTextPrefix (codes "caps=")) word digits → asked_number word a ≡ option_map (with_caps a) (flags_in digits)
unfolding asked_number
number_caps word digits a h = subst (λ w. asked_number w a ≡ option_map (with_caps a) (flags_in digits)) (sym (stripped (codes "caps=") word digits h)) refl

number_mariadb : (word digits : List ℕ) (a : Asked) → StripsPrefix (FindsTextPrefix (codes "mariadb=")) word digits → asked_number word a ≡ option_map (with_mariadb a) (flags_in digits)
unfolding asked_number
number_mariadb word digits a h = subst (λ w. asked_number w a ≡ option_map (with_mariadb a) (flags_in digits)) (sym (stripped (codes "mariadb=") word digits h)) refl

number_longest : (word : List ℕ) (a : Asked) → LacksTextAt (codes "caps=") word 0 → LacksTextAt (codes "mariadb=") word 0 → asked_number word a ≡ option_map (with_longest a) (number_in 10 (2 ^ 64) word)
unfolding asked_number
number_longest word a c m = rw (sym (starts_text false (codes "caps=") word c), sym (starts_text false (codes "mariadb=") word m)) refl

-- ---- word by word

module _ (ws : List (List ℕ)) (i : ℕ) (word : List ℕ) (a : Asked) (w : Option Asked) (next : drop i ws ≡ word ∷ drop (i + 1) ws) (so_far : asked_after (drop i ws) (Some a) ≡ w) where
  here : asked_after (drop (i + 1) ws) (asked_by word a) ≡ w
  here = subst (λ xs. asked_after xs (Some a) ≡ w) next so_far

  to : (o : Option Asked) → asked_by word a ≡ o → asked_after (drop (i + 1) ws) o ≡ w
  to o by = subst (λ x. asked_after (drop (i + 1) ws) x ≡ w) by here

  pub goes_json : word ≡ codes "--json" → asked_after (drop (i + 1) ws) (Some (in_json a)) ≡ w
  goes_json e = to (Some (in_json a)) (asked_json word a e)

  pub goes_sum : word ≡ codes "--sum" → asked_after (drop (i + 1) ws) (Some (with_sums a)) ≡ w
  goes_sum e = to (Some (with_sums a)) (asked_sum word a e)

  pub goes_deciphered : word ≡ codes "--deciphered" → asked_after (drop (i + 1) ws) (Some (deciphered a)) ≡ w
  goes_deciphered e = to (Some (deciphered a)) (asked_deciphered word a e)

  module _ (j : word ≡ codes "--json" → ⊥) (s : word ≡ codes "--sum" → ⊥) (d : word ≡ codes "--deciphered" → ⊥) where
    pub caps_to : (digits : List ℕ) (o : Option ℕ) → StripsPrefix (FindsTextPrefix (codes "caps=")) word digits → o ≡ flags_in digits → asked_after (drop (i + 1) ws) (option_map (with_caps a) o) ≡ w
    caps_to digits o h e = to (option_map (with_caps a) o) (asked_other word a j s d ∙ number_caps word digits a h ∙ ap (λ f. option_map (with_caps a) f) (sym e))

    pub mariadb_to : (digits : List ℕ) (o : Option ℕ) → StripsPrefix (FindsTextPrefix (codes "mariadb=")) word digits → o ≡ flags_in digits → asked_after (drop (i + 1) ws) (option_map (with_mariadb a) o) ≡ w
    mariadb_to digits o h e = to (option_map (with_mariadb a) o) (asked_other word a j s d ∙ number_mariadb word digits a h ∙ ap (λ f. option_map (with_mariadb a) f) (sym e))

    pub longest_to : (o : Option ℕ) → LacksTextAt (codes "caps=") word 0 → LacksTextAt (codes "mariadb=") word 0 → o ≡ number_in 10 (2 ^ 64) word → asked_after (drop (i + 1) ws) (option_map (with_longest a) o) ≡ w
    longest_to o c m e = to (option_map (with_longest a) o) (asked_other word a j s d ∙ number_longest word a c m ∙ ap (λ f. option_map (with_longest a) f) (sym e))

-- ---- the call

none_if : (b : Bool) (x : Option Call) → None ≡ x → None ≡ (if b then x else None)
none_if true x e = e
none_if false x e = refl

pub length_map : {A B : Type 0} (f : A → B) (xs : List A) → length xs ≡ length (map f xs)
length_map f [] = refl
length_map f (x ∷ xs) = ap suc (length_map f xs)

-- the same state
pub state_is : (ws : List (List ℕ)) (w : Option Asked) (call call2 : Call) (caps caps2 : Option ℕ) (mariadb mariadb2 : ℕ) → call2 ≡ call → caps2 ≡ caps → mariadb2 ≡ mariadb
    → asked_after ws (Some (record { call = call; caps = caps; mariadb = mariadb })) ≡ w → asked_after ws (Some (record { call = call2; caps = caps2; mariadb = mariadb2 })) ≡ w
state_is ws w call call2 caps caps2 mariadb mariadb2 a b c h = rw (a, b, c) h

pub ended : (ws : List (List ℕ)) (i n : ℕ) (a : Asked) (w : Option Asked) → n ≡ length ws → n ≤ i → asked_after (drop i ws) (Some a) ≡ w → Some a ≡ w
ended ws i n a w e le h = let none : drop i ws ≡ [] = drop_all i ws (omega (arith, e, le)) in subst (λ xs. asked_after xs (Some a) ≡ w) none h

pub bad_word : (ws : List (List ℕ)) → None ≡ asked_after ws (Some nothing_asked) → None ≡ call_of ws
unfolding call_of
bad_word ws e = none_if (nat_le (length ws) 6) (option_map called (asked_after ws (Some nothing_asked))) (ap (λ o. option_map called o) e)

pub too_many : (ws : List (List ℕ)) (n : ℕ) → n ≡ length ws → (n ≤ 6 → ⊥) → None ≡ call_of ws
unfolding call_of
too_many ws n e h = let no : nat_le (length ws) 6 ≡ false = false_where (nat_le (length ws) 6) (λ yes. h (let le : length ws ≤ 6 = grind (arith, common_steps, yes) in omega (arith, le, e))) in rw no refl

pub good : (ws : List (List ℕ)) (n : ℕ) (a : Asked) → n ≡ length ws → n ≤ 6 → Some a ≡ asked_after ws (Some nothing_asked) → Some (called a) ≡ call_of ws
unfolding call_of
good ws n a e h is =
    let yes : nat_le (length ws) 6 ≡ true = grind (arith, common_steps, e, h) in
    rw yes (ap (λ o. option_map called o) is)

pub ruleset numbers = (number_given)
