-- Pairs inserted into a map, by the names before them.
use Rattle.std.proofs.Common.{◌≡◌, ℕ, Bool, true, false, ◌||◌, List, [], ◌∷◌, ◌++◌, ◌+◌, ◌<◌, ◌≤◌, length, take, drop, get_or, if◌then◌else◌, option_map, Option, Some, None, refl, sym, ap, ◌∙◌}
use Rattle.std.proofs.lemmas.Str.{IsUtf8-from_is_utf8, is_utf8-from_IsUtf8}
use Rattle.std.proofs.lemmas.List.{drop_all, drop_more, length-append, map-append, take_more}
use Rattle.std.specs.Cmp.Lexicographic.{pointwise}
use Rattle.std.specs.Prelude.{nat_eq}
use Rattle.indexmap.specs.IndexMap.{insert_entry, insert_all}
use Rattle.mysql_auth.specs.Attributes.{Attribute, attribute, merged, pairs_bytes}
use Rattle.mysql_wire.proofs.Same.{bytes-same}
use Rattle.mysql_packets_c.specs.Attributes.{firsts, firsts_from, has_name, is_named, last_of, merged_pairs, pair_of, pairs_of, with_pair}
use Rattle.mysql_packets_c.specs.declared.attributes.CAttribute.{CAttribute}

abbrev same : List ℕ → List ℕ → Bool
same = pointwise nat_eq

-- the pairs of other names
abbrev others : List ℕ → List Attribute → List Attribute
others name [] = []
others name (p ∷ pairs) = if same p.0 name then others name pairs else p ∷ others name pairs

-- the pairs of names that are not among these
abbrev apart : (before pairs : List Attribute) → List Attribute
apart before [] = []
apart before (p ∷ pairs) = if is_named p.0 before then apart before pairs else p ∷ apart before pairs

-- ---- names

same-is : (a b : List ℕ) → same a b ≡ true → a ≡ b
same-is a b h = (bytes-same a b).0 h

named-push : (k : List ℕ) (before : List Attribute) (p : Attribute) → is_named k (before ++ p ∷ []) ≡ (is_named k before || same k p.0)
named-push k [] p = or-false (same k p.0)
  where
    or-false : (b : Bool) → (b || false) ≡ b
    or-false true = refl
    or-false false = refl
named-push k (e ∷ before) p = or-assoc (same k e.0) (is_named k before) (same k p.0) (named-push k before p)
  where
    or-assoc : (a b c : Bool) {d : Bool} → d ≡ (b || c) → (a || d) ≡ ((a || b) || c)
    or-assoc true b c h = refl
    or-assoc false b c h = h

-- ---- a map whose first name is known

insert-step : (name value : List ℕ) (es pairs : List Attribute) (p : Attribute) (b : Bool)
    → ((v : List ℕ) (old : List Attribute) → insert_all same ((name, v) ∷ old) pairs ≡ (name, last_of name v pairs) ∷ insert_all same old (others name pairs))
    → insert_all same (if b then (name, p.1) ∷ es else (name, value) ∷ insert_entry same es p.0 p.1) pairs
    ≡ (name, last_of name (if b then p.1 else value) pairs) ∷ insert_all same es (if b then others name pairs else p ∷ others name pairs)
insert-step name value es pairs p true later = later p.1 es
insert-step name value es pairs p false later = later value (insert_entry same es p.0 p.1)

first-known : (name value : List ℕ) (es pairs : List Attribute) → insert_all same ((name, value) ∷ es) pairs ≡ (name, last_of name value pairs) ∷ insert_all same es (others name pairs)
first-known name value es [] = refl
first-known name value es (p ∷ pairs) = insert-step name value es pairs p (same p.0 name) (λ v old. first-known name v old pairs)

-- ---- what comes before

-- a repeated name adds no pair
known-step : (b c : Bool) (q : Attribute) (l m : List Attribute) → c ≡ b → l ≡ m → (if c then l else q ∷ l) ≡ (if b then m else q ∷ m)
known-step true c q l m e h = rw (e, h) refl
known-step false c q l m e h = rw (e, h) refl

or-known : (b c : Bool) → (c ≡ true → b ≡ true) → (b || c) ≡ b
or-known true c h = refl
or-known false true h = sym (h refl)
or-known false false h = refl

apart-known : (before pairs : List Attribute) (p : Attribute) → is_named p.0 before ≡ true → apart (before ++ p ∷ []) pairs ≡ apart before pairs
apart-known before [] p known = refl
apart-known before (q ∷ pairs) p known =
    known-step (is_named q.0 before) (is_named q.0 (before ++ p ∷ [])) q (apart (before ++ p ∷ []) pairs) (apart before pairs)
    (named-push q.0 before p ∙ or-known (is_named q.0 before) (same q.0 p.0) (λ e. ap (λ k. is_named k before) (same-is q.0 p.0 e) ∙ known))
    (apart-known before pairs p known)

apart-step : (b c : Bool) (q : Attribute) (name : List ℕ) (l m : List Attribute) → same q.0 name ≡ c → l ≡ others name m → (if (b || c) then l else q ∷ l) ≡ others name (if b then m else q ∷ m)
apart-step true c q name l m e h = h
apart-step false true q name l m e h = rw (e) h
apart-step false false q name l m e h = rw (e) (ap (λ k. q ∷ k) h)

apart-push : (before pairs : List Attribute) (p : Attribute) → apart (before ++ p ∷ []) pairs ≡ others p.0 (apart before pairs)
apart-push before [] p = refl
apart-push before (q ∷ pairs) p =
    ap (λ b. if b then apart (before ++ p ∷ []) pairs else q ∷ apart (before ++ p ∷ []) pairs) (named-push q.0 before p)
    ∙ apart-step (is_named q.0 before) (same q.0 p.0) q p.0 (apart (before ++ p ∷ []) pairs) (apart before pairs) refl (apart-push before pairs p)

last-step : (b c : Bool) (q : Attribute) (name value : List ℕ) (m pairs : List Attribute) → same q.0 name ≡ c → (b ≡ true → c ≡ false)
    → ((v : List ℕ) → last_of name v m ≡ last_of name v pairs)
    → last_of name value (if b then m else q ∷ m) ≡ last_of name (if c then q.1 else value) pairs
last-step true true q name value m pairs e h later = absurd (let f : true ≡ false = h refl in cc)
last-step true false q name value m pairs e h later = later value
last-step false c q name value m pairs e h later = rw (e, last_of) (later (if c then q.1 else value))

last-apart : (before pairs : List Attribute) (name value : List ℕ) → is_named name before ≡ false → last_of name value (apart before pairs) ≡ last_of name value pairs
last-apart before [] name value new = refl
last-apart before (q ∷ pairs) name value new =
    last-step (is_named q.0 before) (same q.0 name) q name value (apart before pairs) pairs refl
    (λ known. not-same (same q.0 name) refl known)
    (λ v. last-apart before pairs name v new)
  where
    not-same : (c : Bool) → same q.0 name ≡ c → is_named q.0 before ≡ true → c ≡ false
    not-same false e known = refl
    not-same true e known = let f : is_named name before ≡ true = ap (λ k. is_named k before) (sym (same-is q.0 name e)) ∙ known in absurd cc

firsts-step : (b : Bool) (before pairs : List Attribute) (p : Attribute) → is_named p.0 before ≡ b
    → firsts (before ++ p ∷ []) pairs ≡ insert_all same [] (apart (before ++ p ∷ []) pairs)
    → (if b then firsts (before ++ p ∷ []) pairs else (p.0, last_of p.0 p.1 pairs) ∷ firsts (before ++ p ∷ []) pairs) ≡ insert_all same [] (if b then apart before pairs else p ∷ apart before pairs)
firsts-step true before pairs p e later = later ∙ ap (λ l. insert_all same [] l) (apart-known before pairs p e)
firsts-step false before pairs p e later =
    let first = first-known p.0 p.1 [] (apart before pairs) in
    let tail = later ∙ ap (λ l. insert_all same [] l) (apart-push before pairs p) in
    let value = sym (last-apart before pairs p.0 p.1 e) in
    ap (λ l. (p.0, last_of p.0 p.1 pairs) ∷ l) tail ∙ ap (λ v. (p.0, v) ∷ insert_all same [] (others p.0 (apart before pairs))) value ∙ sym first

firsts-apart : (before pairs : List Attribute) → firsts before pairs ≡ insert_all same [] (apart before pairs)
firsts-apart before [] = refl
firsts-apart before (p ∷ pairs) = firsts-step (is_named p.0 before) before pairs p refl (firsts-apart (before ++ p ∷ []) pairs)

all-apart : (pairs : List Attribute) → apart [] pairs ≡ pairs
all-apart [] = refl
all-apart (p ∷ pairs) = ap (λ l. p ∷ l) (all-apart pairs)

-- the map of pairs
pub firsts-merged : (pairs : List Attribute) → firsts [] pairs ≡ merged pairs
firsts-merged pairs = firsts-apart [] pairs ∙ ap (λ l. insert_all same [] l) (all-apart pairs)

-- ---- in order

named-pairs : (attributes : List CAttribute) (name : List ℕ) → has_name name attributes ≡ is_named name (pairs_of attributes)
named-pairs [] name = refl
named-pairs (a ∷ attributes) name = ap (λ (b : Bool). same name a.name.now || b) (named-pairs attributes name)

firsts-at : (attributes : List CAttribute) (place : ℕ) (a d : CAttribute) → place < length attributes → a ≡ get_or attributes place d
    → firsts_from place attributes
    ≡ (if has_name a.name.now (take place attributes) then firsts_from (place + 1) attributes
    else (a.name.now, last_of a.name.now a.value.now (pairs_of (drop (place + 1) attributes))) ∷ firsts_from (place + 1) attributes)
firsts-at attributes place a d within is =
    let after = pairs_of (drop (place + 1) attributes) in
    let left : drop place attributes ≡ a ∷ drop (place + 1) attributes = drop_more attributes place d within ∙ ap (λ (x : CAttribute). x ∷ drop (place + 1) attributes) (sym is) in
    let front : pairs_of (take (place + 1) attributes) ≡ pairs_of (take place attributes) ++ pair_of a ∷ [] =
    ap pairs_of (take_more attributes place d within) ∙ map-append pair_of (take place attributes) (get_or attributes place d ∷ []) ∙ ap (λ (x : CAttribute). pairs_of (take place attributes) ++ pair_of x ∷ []) (sym is) in
    ap (λ (x : List CAttribute). firsts (pairs_of (take place attributes)) (pairs_of x)) left
    ∙ ap (λ (before : List Attribute). if is_named a.name.now (pairs_of (take place attributes)) then firsts before after else (a.name.now, last_of a.name.now a.value.now after) ∷ firsts before after) (sym front)
    ∙ ap (λ (b : Bool). if b then firsts_from (place + 1) attributes else (a.name.now, last_of a.name.now a.value.now after) ∷ firsts_from (place + 1) attributes) (sym (named-pairs (take place attributes) a.name.now))

pub firsts-known : (attributes : List CAttribute) (place : ℕ) (a d : CAttribute) → place < length attributes → a ≡ get_or attributes place d → has_name a.name.now (take place attributes) ≡ true
    → firsts_from place attributes ≡ firsts_from (place + 1) attributes
firsts-known attributes place a d within is known =
    firsts-at attributes place a d within is
    ∙ ap (λ (b : Bool). if b then firsts_from (place + 1) attributes else (a.name.now, last_of a.name.now a.value.now (pairs_of (drop (place + 1) attributes))) ∷ firsts_from (place + 1) attributes) known

pub firsts-new : (attributes : List CAttribute) (place : ℕ) (a d : CAttribute) (value : List ℕ) → place < length attributes → a ≡ get_or attributes place d → has_name a.name.now (take place attributes) ≡ false
    → value ≡ last_of a.name.now a.value.now (pairs_of (drop (place + 1) attributes)) → firsts_from place attributes ≡ (a.name.now, value) ∷ firsts_from (place + 1) attributes
firsts-new attributes place a d value within is new last =
    firsts-at attributes place a d within is
    ∙ ap (λ (b : Bool). if b then firsts_from (place + 1) attributes else (a.name.now, last_of a.name.now a.value.now (pairs_of (drop (place + 1) attributes))) ∷ firsts_from (place + 1) attributes) new
    ∙ ap (λ (v : List ℕ). (a.name.now, v) ∷ firsts_from (place + 1) attributes) (sym last)

pub firsts-end : (attributes : List CAttribute) (place : ℕ) → length attributes ≤ place → firsts_from place attributes ≡ []
firsts-end attributes place past = ap (λ (x : List CAttribute). firsts (pairs_of (take place attributes)) (pairs_of x)) (drop_all place attributes past)

pub firsts-all : (attributes : List CAttribute) → firsts_from 0 attributes ≡ merged_pairs attributes
firsts-all attributes = firsts-merged (pairs_of attributes)

pub last-next : (attributes : List CAttribute) (i : ℕ) (a d : CAttribute) (name value next : List ℕ) → i < length attributes → a ≡ get_or attributes i d → next ≡ (if same a.name.now name then a.value.now else value)
    → last_of name next (pairs_of (drop (i + 1) attributes)) ≡ last_of name value (pairs_of (drop i attributes))
last-next attributes i a d name value next within is e =
    let left : drop i attributes ≡ a ∷ drop (i + 1) attributes = drop_more attributes i d within ∙ ap (λ (x : CAttribute). x ∷ drop (i + 1) attributes) (sym is) in
    ap (λ (v : List ℕ). last_of name v (pairs_of (drop (i + 1) attributes))) e ∙ sym (ap (λ (x : List CAttribute). last_of name value (pairs_of x)) left)

pub last-end : (attributes : List CAttribute) (i : ℕ) (name value : List ℕ) → length attributes ≤ i → last_of name value (pairs_of (drop i attributes)) ≡ value
last-end attributes i name value past = ap (λ (x : List CAttribute). last_of name value (pairs_of x)) (drop_all i attributes past)

-- the length of the first one
pub pairs-more : (p : Attribute) (pairs : List Attribute) → length (pairs_bytes (p ∷ pairs)) ≡ length (attribute.bytes p) + length (pairs_bytes pairs)
pairs-more p pairs = length-append (attribute.bytes p) (pairs_bytes pairs)

-- what is left after a place
pub placed-some : (attributes : List CAttribute) (place : ℕ) (pair : CAttribute) (found : Option CAttribute) → found ≡ Some pair
    → firsts_from place attributes ≡ with_pair (option_map pair_of found) (firsts_from (place + 1) attributes) → firsts_from place attributes ≡ pair_of pair ∷ firsts_from (place + 1) attributes
placed-some attributes place pair found is left = left ∙ ap (λ (f : Option CAttribute). with_pair (option_map pair_of f) (firsts_from (place + 1) attributes)) is

pub placed-none : (attributes : List CAttribute) (place : ℕ) (found : Option CAttribute) → found ≡ None
    → firsts_from place attributes ≡ with_pair (option_map pair_of found) (firsts_from (place + 1) attributes) → firsts_from place attributes ≡ firsts_from (place + 1) attributes
placed-none attributes place found is left = left ∙ ap (λ (f : Option CAttribute). with_pair (option_map pair_of f) (firsts_from (place + 1) attributes)) is

pub ruleset texts = (IsUtf8-from_is_utf8, is_utf8-from_IsUtf8)

pub ruleset last_values = (last-next, last-end)
