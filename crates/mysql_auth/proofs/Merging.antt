-- Pairs are inserted into a map in order.
use Rattle.std.proofs.Common.{◌≡◌, ℕ, suc, ◌+◌, ◌<◌, Bool, true, false, ◌||◌, List, [], ◌∷◌, ◌++◌, length, take, get_or, map, arith, if◌then◌else◌, refl, sym, subst, ap, ◌∙◌, append_assoc}
use Rattle.std.proofs.Math.Seq.{take-suc}
use Rattle.std.proofs.lemmas.List.{append-nil, map-append}
use Rattle.std.proofs.lemmas.List.Sums.{fold-append}
use Rattle.std.proofs.lemmas.Map.Keys.{IsDistinct-head, IsDistinct-tail, IsDistinct-push}
use Rattle.std.specs.Cmp.Lexicographic.{pointwise, nat_list_eq_equiv}
use Rattle.std.specs.Global.{Global}
use Rattle.std.specs.List.{IsDistinct, AllByRecursion, list_any}
use Rattle.std.specs.Map.{keys_of}
use Rattle.std.specs.Prelude.{nat_eq, string_bytes, string_eq}
use Rattle.std.specs.declared.string.String.{String}
use Rattle.std.proofs.lemmas.Bool.{or_parts}
use Rattle.indexmap.specs.IndexMap.{insert_entry, insert_all}
use Rattle.mysql_auth.specs.Attributes.{Attribute, merged, text_pair, lossy_pair, lossy_pairs}

abbrev same : List ℕ → List ℕ → Bool
same = pointwise nat_eq

-- what holds for each key holds for one in the middle
middle : (P : List ℕ → Type 0) (front more : List Attribute) (e : Attribute) → AllByRecursion P (keys_of (front ++ e ∷ more)) → P e.0
middle P [] more e all = all.0
middle P (f ∷ front) more e all = middle P front more e all.1

-- a key that occurs once is inserted at the end
goes-last : (front more : List Attribute) (e : Attribute) → IsDistinct same (keys_of (front ++ e ∷ more)) → insert_entry same front e.0 e.1 ≡ front ++ e ∷ []
goes-last [] more e once = refl
goes-last (f ∷ front) more e once =
    let others = IsDistinct-head same f.0 (keys_of (front ++ e ∷ more)) once in
    let other : same e.0 f.0 ≡ false = nat_list_eq_equiv.symm e.0 f.0 ∙ middle (λ k. same f.0 k ≡ false) front more e others in
    rw other (ap (λ (es : List Attribute). f ∷ es) (goes-last front more e (IsDistinct-tail same f.0 (keys_of (front ++ e ∷ more)) once)))

merged-after : (front es : List Attribute) → IsDistinct same (keys_of (front ++ es)) → insert_all same front es ≡ front ++ es
merged-after front [] once = sym (append-nil front)
merged-after front (e ∷ es) once =
    let regrouped : (front ++ e ∷ []) ++ es ≡ front ++ e ∷ es = append_assoc front (e ∷ []) es in
    rw (goes-last front es e once)
    (merged-after (front ++ e ∷ []) es (subst (λ (all : List Attribute). IsDistinct same (keys_of all)) (sym regrouped) once) ∙ regrouped)

-- pairs with distinct keys are unchanged
pub merged-once : (es : List Attribute) → IsDistinct same (keys_of es) → merged es ≡ es
merged-once es once = merged-after [] es once

-- ---- a key that no other has

-- it is inserted at the end
pub new-last : (es : List Attribute) (k v : List ℕ) → list_any (λ e. same k e.0) es ≡ false → insert_entry same es k v ≡ es ++ (k, v) ∷ []
new-last [] k v none = refl
new-last (e ∷ es) k v none =
    let each = or_parts (same k e.0) (list_any (λ e. same k e.0) es) none in
    rw each.0 (ap (λ (rest : List Attribute). e ∷ rest) (new-last es k v each.1))

keys-any : (es : List Attribute) (k : List ℕ) → list_any (same k) (keys_of es) ≡ list_any (λ e. same k e.0) es
keys-any [] k = refl
keys-any (e ∷ es) k = ap (λ b. same k e.0 || b) (keys-any es k)

keys-last : (es : List Attribute) (p : Attribute) → keys_of (es ++ p ∷ []) ≡ keys_of es ++ p.0 ∷ []
keys-last [] p = refl
keys-last (e ∷ es) p = ap (λ (ks : List (List ℕ)). e.0 ∷ ks) (keys-last es p)

-- and the keys are still distinct
pub new-once : (es : List Attribute) (p : Attribute) → IsDistinct same (keys_of es) → list_any (λ e. same p.0 e.0) es ≡ false → IsDistinct same (keys_of (es ++ p ∷ []))
new-once es p once none =
    subst (IsDistinct same) (sym (keys-last es p)) (IsDistinct-push nat_list_eq_equiv (keys_of es) p.0 once (keys-any es p.0 ∙ none))

pub none-twice : IsDistinct same (keys_of {K = List ℕ} {X = List ℕ} [])
unfolding IsDistinct
none-twice = tt

pub ruleset distinct = (new-once, none-twice, merged-once)

-- ---- texts

-- a text that is inserted, as its bytes
pub texts-insert : (es : List (String Global × String Global)) (k v : String Global)
    → map text_pair (insert_entry string_eq es k v) ≡ insert_entry same (map text_pair es) (string_bytes k) (string_bytes v)
texts-insert [] k v = refl
texts-insert (e ∷ es) k v = by (string_eq k e.0) (texts-insert es k v)
  where
    by : (b : Bool) → map text_pair (insert_entry string_eq es k v) ≡ insert_entry same (map text_pair es) (string_bytes k) (string_bytes v)
        → map text_pair (if b then (e.0, v) ∷ es else e ∷ insert_entry string_eq es k v)
        ≡ (if b then (string_bytes e.0, string_bytes v) ∷ map text_pair es else text_pair e ∷ insert_entry same (map text_pair es) (string_bytes k) (string_bytes v))
    by true h = refl
    by false h = ap (λ (rest : List Attribute). text_pair e ∷ rest) h

others-apart : (k : String Global) (es : List (String Global × String Global)) → AllByRecursion (λ y. string_eq k y ≡ false) (keys_of es)
    → AllByRecursion (λ y. same (string_bytes k) y ≡ false) (keys_of (map text_pair es))
others-apart k [] all = tt
others-apart k (e ∷ es) all = (all.0, others-apart k es all.1)

-- texts that differ have bytes that differ
pub texts-once : (es : List (String Global × String Global)) → IsDistinct string_eq (keys_of es) → IsDistinct same (keys_of (map text_pair es))
unfolding IsDistinct
texts-once [] once = tt
texts-once (e ∷ es) once = (others-apart e.0 es once.0, texts-once es once.1)

-- the bytes of a map's texts are pairs with distinct keys
pub merged-texts : (es : List (String Global × String Global)) → IsDistinct string_eq (keys_of es) → merged (map text_pair es) ≡ map text_pair es
merged-texts es once = merged-once (map text_pair es) (texts-once es once)

-- a list that has the pairs of a map
pub once-listed : (list es : List Attribute) → IsDistinct same (keys_of es) → list ≡ es → merged list ≡ list
once-listed list es once is = rw is (merged-once es once)

pub texts-listed : (list : List Attribute) (es : List (String Global × String Global)) → IsDistinct string_eq (keys_of es) → list ≡ map text_pair es → merged list ≡ list
texts-listed list es once is = rw is (merged-texts es once)

-- the texts of one more pair
pub texts-next : (pairs : List Attribute) (i : ℕ) (d : Attribute) (es : List (String Global × String Global)) (k v : String Global) → i < length pairs
    → map text_pair es ≡ lossy_pairs (take i pairs) → text_pair (k, v) ≡ lossy_pair (get_or pairs i d)
    → map text_pair (insert_entry string_eq es k v) ≡ lossy_pairs (take (i + 1) pairs)
texts-next pairs i d es k v lt so_far is =
    let one : i + 1 ≡ suc i = omega arith in
    let more : take (i + 1) pairs ≡ take i pairs ++ get_or pairs i d ∷ [] = rw one (take-suc pairs i d lt) in
    let put : insert_entry same (map text_pair es) (string_bytes k) (string_bytes v) ≡ insert_entry same (lossy_pairs (take i pairs)) (string_bytes k) (string_bytes v) =
    ap (λ (front : List Attribute). insert_entry same front (string_bytes k) (string_bytes v)) so_far in
    let last : insert_entry same (lossy_pairs (take i pairs)) (string_bytes k) (string_bytes v) ≡ insert_all same (lossy_pairs (take i pairs)) (lossy_pair (get_or pairs i d) ∷ []) =
    ap (λ (p : Attribute). insert_entry same (lossy_pairs (take i pairs)) p.0 p.1) is in
    let joined : lossy_pairs (take i pairs ++ get_or pairs i d ∷ []) ≡ insert_all same (lossy_pairs (take i pairs)) (lossy_pair (get_or pairs i d) ∷ []) =
    ap (λ (all : List Attribute). merged all) (map-append lossy_pair (take i pairs) (get_or pairs i d ∷ [])) ∙ fold-append _ [] (map lossy_pair (take i pairs)) (lossy_pair (get_or pairs i d) ∷ []) in
    texts-insert es k v ∙ put ∙ last ∙ sym joined ∙ ap lossy_pairs (sym more)

pub ruleset merges = (merged-once, merged-texts, once-listed, texts-listed, append-nil, append_assoc)
