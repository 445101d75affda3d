-- Waiting commands that are served when the server reaches them are served in the order of the conversation.
use Rattle.std.proofs.Common.{◌≡◌, ◌≢◌, ℕ, zero, suc, ◌+◌, ◌<◌, ◌≤◌, Bool, true, false, cond, nat_lt, nat_le, ◌==◌, List, [], ◌∷◌, ◌++◌, filter, refl, sym, ap, ◌∙◌, append_assoc, arith, eq-eqb}
use Rattle.std.proofs.lemmas.Bool.{ne_eqb, le-leb, lt-ltb, leb-true, leb-false, eqb-true}
use Rattle.std.proofs.lemmas.List.{append-nil}
use Rattle.mysql_conversation.specs.Pipelined.{Numbered}
use Rattle.mysql_observer.specs.Order.{of_exchange, up_to}

-- ---- filters

pub keeps : (test : Numbered → Bool) (x : Numbered) (xs : List Numbered) → test x ≡ true → filter test (x ∷ xs) ≡ x ∷ filter test xs
keeps test x xs e = ap (λ b. cond b (x ∷ filter test xs) (filter test xs)) e

pub skips : (test : Numbered → Bool) (x : Numbered) (xs : List Numbered) → test x ≡ false → filter test (x ∷ xs) ≡ filter test xs
skips test x xs e = ap (λ b. cond b (x ∷ filter test xs) (filter test xs)) e

cons_when : (b : Bool) (x : Numbered) (xs ys : List Numbered) → cond b (x ∷ (xs ++ ys)) (xs ++ ys) ≡ cond b (x ∷ xs) xs ++ ys
cons_when true x xs ys = refl
cons_when false x xs ys = refl

pub filter_append : (test : Numbered → Bool) (xs ys : List Numbered) → filter test (xs ++ ys) ≡ filter test xs ++ filter test ys
filter_append test [] ys = refl
filter_append test (x ∷ xs) ys = ap (λ l. cond (test x) (x ∷ l) l) (filter_append test xs ys) ∙ cons_when (test x) x (filter test xs) (filter test ys)

-- ---- one more command

-- it belongs to its exchange
pub exchange_more : (n : ℕ) (items : List Numbered) (x : Numbered) → x.number ≡ n → of_exchange n (items ++ x ∷ []) ≡ of_exchange n items ++ x ∷ []
exchange_more n items x e = filter_append (λ y. y.number == n) items (x ∷ []) ∙ ap (λ l. of_exchange n items ++ l) (keeps (λ y. y.number == n) x [] (eq-eqb x.number n e))

pub exchange_same : (n : ℕ) (items : List Numbered) (x : Numbered) → x.number ≢ n → of_exchange n (items ++ x ∷ []) ≡ of_exchange n items
exchange_same n items x e =
    filter_append (λ y. y.number == n) items (x ∷ [])
    ∙ ap (λ l. of_exchange n items ++ l) (skips (λ y. y.number == n) x [] (ne_eqb x.number n e))
    ∙ append-nil (of_exchange n items)

pub up_to_same : (n : ℕ) (items : List Numbered) (x : Numbered) → n < x.number → up_to n (items ++ x ∷ []) ≡ up_to n items
up_to_same zero items x h = exchange_same 0 items x (λ e. omega (arith, e, h))
up_to_same (suc n) items x h =
    ap (λ l. l ++ of_exchange (suc n) (items ++ x ∷ [])) (up_to_same n items x (omega arith))
    ∙ ap (λ l. up_to n items ++ l) (exchange_same (suc n) items x (λ e. omega (arith, e, h)))

pub up_to_more : (n : ℕ) (items : List Numbered) (x : Numbered) → x.number ≡ n → up_to n (items ++ x ∷ []) ≡ up_to n items ++ x ∷ []
up_to_more zero items x e = exchange_more 0 items x e
up_to_more (suc n) items x e =
    ap (λ l. l ++ of_exchange (suc n) (items ++ x ∷ [])) (up_to_same n items x (omega (arith, e)))
    ∙ ap (λ l. up_to n items ++ l) (exchange_more (suc n) items x e)
    ∙ sym (append_assoc (up_to n items) (of_exchange (suc n) items) (x ∷ []))

-- ---- the waiting commands

-- the numbers ascend, from above one number to another
abbrev pub Ascends : ℕ → List Numbered → ℕ → Type 0
Ascends m [] l = m ≤ l
Ascends m (x ∷ xs) l = (m < x.number) × Ascends x.number xs l

-- the empty order is empty
leb_no_when : (m n : ℕ) (b : Bool) → nat_le m n ≡ b → n < m → b ≡ false
leb_no_when m n true e h = absurd (let k = leb-true m n e in omega (arith, k, h))
leb_no_when m n false e h = refl

leb_no : (m n : ℕ) → n < m → nat_le m n ≡ false
leb_no m n h = leb_no_when m n (nat_le m n) refl h

-- those of the exchanges after one, and those up to one
abbrev pub later : ℕ → List Numbered → List Numbered
later n items = filter (λ x. nat_lt n x.number) items

abbrev pub sooner : ℕ → List Numbered → List Numbered
sooner n items = filter (λ x. nat_le x.number n) items

pub none_sooner : (n m l : ℕ) (xs : List Numbered) → n ≤ m → Ascends m xs l → sooner n xs ≡ []
none_sooner n m l [] h a = refl
none_sooner n m l (x ∷ xs) h a =
    skips (λ y. nat_le y.number n) x xs (leb_no x.number n (omega (arith, h, a.0))) ∙ none_sooner n x.number l xs (omega (arith, h, a.0)) a.1

pub all_later : (n m l : ℕ) (xs : List Numbered) → n ≤ m → Ascends m xs l → later n xs ≡ xs
all_later n m l [] h a = refl
all_later n m l (x ∷ xs) h a =
    keeps (λ y. nat_lt n y.number) x xs (lt-ltb n x.number (omega (arith, h, a.0))) ∙ ap (λ l. x ∷ l) (all_later n x.number l xs (omega (arith, h, a.0)) a.1)

none_of : (n m l : ℕ) (xs : List Numbered) → n ≤ m → Ascends m xs l → of_exchange n xs ≡ []
none_of n m l [] h a = refl
none_of n m l (x ∷ xs) h a =
    skips (λ y. y.number == n) x xs (ne_eqb x.number n (λ e. omega (arith, e, h, a.0))) ∙ none_of n x.number l xs (omega (arith, h, a.0)) a.1

-- ---- the commands up to an exchange, by exchanges

sooner_here : (n : ℕ) (l : ℕ) (x : Numbered) (xs : List Numbered) → x.number ≡ suc n → Ascends x.number xs l
    → sooner (suc n) xs ≡ sooner n xs ++ of_exchange (suc n) xs → sooner (suc n) (x ∷ xs) ≡ sooner n (x ∷ xs) ++ of_exchange (suc n) (x ∷ xs)
sooner_here n l x xs e a ih =
    keeps (λ y. nat_le y.number (suc n)) x xs (le-leb x.number (suc n) (omega (arith, e)))
    ∙ ap (λ w. x ∷ w) (none_sooner (suc n) x.number l xs (omega (arith, e)) a ∙ sym (none_of (suc n) x.number l xs (omega (arith, e)) a))
    ∙ sym (ap (λ w. w ++ of_exchange (suc n) (x ∷ xs)) (skips (λ y. nat_le y.number n) x xs (leb_no x.number n (omega (arith, e))) ∙ none_sooner n x.number l xs (omega (arith, e)) a)
    ∙ keeps (λ y. y.number == suc n) x xs (eq-eqb x.number (suc n) e))

sooner_before : (n : ℕ) (x : Numbered) (xs : List Numbered) → x.number ≤ n
    → sooner (suc n) xs ≡ sooner n xs ++ of_exchange (suc n) xs → sooner (suc n) (x ∷ xs) ≡ sooner n (x ∷ xs) ++ of_exchange (suc n) (x ∷ xs)
sooner_before n x xs h ih =
    keeps (λ y. nat_le y.number (suc n)) x xs (le-leb x.number (suc n) (omega (arith, h)))
    ∙ ap (λ w. x ∷ w) ih
    ∙ sym (ap (λ w. w ++ of_exchange (suc n) (x ∷ xs)) (keeps (λ y. nat_le y.number n) x xs (le-leb x.number n h))
    ∙ ap (λ w. (x ∷ sooner n xs) ++ w) (skips (λ y. y.number == suc n) x xs (ne_eqb x.number (suc n) (λ e. omega (arith, e, h)))))

sooner_after : (n : ℕ) (x : Numbered) (xs : List Numbered) → suc n < x.number
    → sooner (suc n) xs ≡ sooner n xs ++ of_exchange (suc n) xs → sooner (suc n) (x ∷ xs) ≡ sooner n (x ∷ xs) ++ of_exchange (suc n) (x ∷ xs)
sooner_after n x xs h ih =
    skips (λ y. nat_le y.number (suc n)) x xs (leb_no x.number (suc n) h)
    ∙ ih
    ∙ sym (ap (λ w. w ++ of_exchange (suc n) (x ∷ xs)) (skips (λ y. nat_le y.number n) x xs (leb_no x.number n (omega (arith, h))))
    ∙ ap (λ w. sooner n xs ++ w) (skips (λ y. y.number == suc n) x xs (ne_eqb x.number (suc n) (λ e. omega (arith, e, h)))))

-- equal numbers compare equal
clash_with : (k n : ℕ) → k ≡ n → (k == n) ≡ false → ⊥
clash_with k n q g = let e = eq-eqb k n q in absurd (cc)

clash_of : (k n : ℕ) → k ≡ suc n → (k == suc n) ≡ false → ⊥
clash_of k n q g = clash_with k (suc n) q g

-- a number is before, here, or after
place_when : {P : Type 0} (k n : ℕ) (b : Bool) (d : Bool) → nat_le k n ≡ b → (k == suc n) ≡ d → (k ≤ n → P) → (k ≡ suc n → P) → (suc n < k → P) → P
place_when k n true d e g before here after = before (leb-true k n e)
place_when k n false true e g before here after = here (eqb-true k (suc n) g)
place_when k n false false e g before here after = after (let lt = leb-false k n e in let ne : k ≢ suc n = (λ q. clash_of k n q g) in omega (arith, lt, ne))

pub sooner_suc : (n m l : ℕ) (xs : List Numbered) → Ascends m xs l → sooner (suc n) xs ≡ sooner n xs ++ of_exchange (suc n) xs
sooner_suc n m l [] a = refl
sooner_suc n m l (x ∷ xs) a =
    let ih = sooner_suc n x.number l xs a.1 in
    place_when x.number n (nat_le x.number n) (x.number == suc n) refl refl
    (λ h. sooner_before n x xs h ih) (λ e. sooner_here n l x xs e a.1 ih) (λ h. sooner_after n x xs h ih)

-- ---- the packets of a later exchange come later

later_in : (n m : ℕ) (x : Numbered) (xs : List Numbered) → x.number ≡ n → m < n → of_exchange n xs ≡ of_exchange n (later m xs) → of_exchange n (x ∷ xs) ≡ of_exchange n (later m (x ∷ xs))
later_in n m x xs e h ih =
    keeps (λ y. y.number == n) x xs (eq-eqb x.number n e) ∙ ap (λ w. x ∷ w) ih
    ∙ sym (ap (of_exchange n) (keeps (λ y. nat_lt m y.number) x xs (lt-ltb m x.number (omega (arith, e, h)))) ∙ keeps (λ y. y.number == n) x (later m xs) (eq-eqb x.number n e))

later_out_when : (b : Bool) (n m : ℕ) (x : Numbered) (xs : List Numbered) → nat_lt m x.number ≡ b → x.number ≢ n → of_exchange n (later m xs) ≡ of_exchange n (later m (x ∷ xs))
later_out_when true n m x xs g e = sym (ap (of_exchange n) (keeps (λ y. nat_lt m y.number) x xs g) ∙ skips (λ y. y.number == n) x (later m xs) (ne_eqb x.number n e))
later_out_when false n m x xs g e = sym (ap (of_exchange n) (skips (λ y. nat_lt m y.number) x xs g))

later_when : (d : Bool) (n m : ℕ) (x : Numbered) (xs : List Numbered) → (x.number == n) ≡ d → m < n → of_exchange n xs ≡ of_exchange n (later m xs) → of_exchange n (x ∷ xs) ≡ of_exchange n (later m (x ∷ xs))
later_when true n m x xs g h ih = later_in n m x xs (eqb-true x.number n g) h ih
later_when false n m x xs g h ih =
    let ne : x.number ≢ n = (λ q. clash_with x.number n q g) in
    skips (λ y. y.number == n) x xs g ∙ ih ∙ later_out_when (nat_lt m x.number) n m x xs refl ne

pub of_later : (n m : ℕ) (items : List Numbered) → m < n → of_exchange n items ≡ of_exchange n (later m items)
of_later n m [] h = refl
of_later n m (x ∷ xs) h = later_when (x.number == n) n m x xs refl h (of_later n m xs h)

-- ---- the exchanges up to a later one

pub up_to_later : (d m l : ℕ) (items : List Numbered) → Ascends m (later m items) l → up_to (d + m) items ≡ up_to m items ++ sooner (d + m) (later m items)
up_to_later zero m l items a =
    let e : zero + m ≡ m = omega arith in
    ap (λ n. up_to n items) e ∙ sym (append-nil (up_to m items)) ∙ ap (λ w. up_to m items ++ w) (sym (ap (λ n. sooner n (later m items)) e ∙ none_sooner m m l (later m items) (omega arith) a))
up_to_later (suc d) m l items a =
    let e : suc d + m ≡ suc (d + m) = omega arith in
    ap (λ n. up_to n items) e
    ∙ ap (λ w. w ++ of_exchange (suc (d + m)) items) (up_to_later d m l items a)
    ∙ ap (λ w. (up_to m items ++ sooner (d + m) (later m items)) ++ w) (of_later (suc (d + m)) m items (omega arith))
    ∙ append_assoc (up_to m items) (sooner (d + m) (later m items)) (of_exchange (suc (d + m)) (later m items))
    ∙ ap (λ w. up_to m items ++ w) (sym (sooner_suc (d + m) m l (later m items) a))
    ∙ ap (λ n. up_to m items ++ sooner n (later m items)) (sym e)
