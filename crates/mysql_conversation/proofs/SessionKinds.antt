-- A packet has one kind in a session too.
use Rattle.std.proofs.Common.{◌≡◌, ℕ, List, [], ◌∷◌, ◌++◌, ◌⊎◌, inl, inr, refl, sym, ap, subst, ◌∙◌, Bool, true, false, append_assoc}
use Rattle.mysql_conversation.specs.Agreements.{Agreed}
use Rattle.mysql_conversation.specs.Payloads.{first_is}
use Rattle.mysql_conversation.specs.Piped.{place}
use Rattle.mysql_conversation.specs.Pipelined.{Numbered, IsPipelined}
use Rattle.mysql_conversation.specs.Session.{asks_tls, IsGreeting, IsGreetingError, IsSslRequest, IsLogin, IsNoLogin, IsLoginError, Before, IsLoggedIn, IsSession, IsSessionBeginning}
use Rattle.mysql_conversation.proofs.Classes.{some_is}
use Rattle.mysql_conversation.proofs.Sessions.{AnswersGreeting, answer_at, begins_with, error_at, login_at_of, session_rest}
use Rattle.mysql_conversation.proofs.Stood.{pipe_one_kind}
use Rattle.mysql_conversation.specs.declared.packet_kind.PacketKind.{PacketKind}
use Rattle.mysql_conversation.specs.declared.packet_kind.InitialPhase.TheVariants.{Login}
use Rattle.mysql_conversation.specs.declared.packet_kind.Side.{Side}
use Rattle.mysql_conversation.specs.declared.packet_kind.Side.TheVariants.{Client, Server}

-- ---- how far a session has come

abbrev Stage : List Numbered → Type 0
Stage items =
    (items ≡ []) ⊎ (((server : Agreed) × (tls : Bool) × Before server tls items)
    ⊎ (((server : Agreed) × (tls : Bool) × (front : List Numbered) × (y : Numbered) × (items ≡ front ++ y ∷ []) × Before server tls front × IsNoLogin tls y)
    ⊎ ((a : Agreed) × (front : List Numbered) × (x : Numbered) × (its : List Numbered) × (items ≡ front ++ x ∷ its) × IsLoggedIn a front x)))

-- a packet of a list is before, at or after another one
abbrev Where : List Numbered → Numbered → List Numbered → List Numbered → Numbered → Type 0
Where items y more front x =
    ((its : List Numbered) × (front ≡ items ++ y ∷ its)) ⊎ ((items ≡ front) ⊎ ((its : List Numbered) × (items ≡ front ++ x ∷ its)))

where_is : (items more front rest : List Numbered) (y x : Numbered) → items ++ y ∷ more ≡ front ++ x ∷ rest → Where items y more front x
where_is [] more [] rest y x e = inr (inl refl)
where_is [] more (u ∷ front) rest y x e = inl (front, ap (λ y. y ∷ front) (sym (the_head e)))
  where
    the_head : y ∷ more ≡ u ∷ (front ++ x ∷ rest) → y ≡ u
    the_head e = cc
where_is (z ∷ items) more [] rest y x e = inr (inr (items, ap (λ z. z ∷ items) (the_head e)))
  where
    the_head : z ∷ (items ++ y ∷ more) ≡ x ∷ rest → z ≡ x
    the_head e = cc
where_is (z ∷ items) more (u ∷ front) rest y x e = elim (where_is items more front rest y x (the_tail e)) [
  | inl h ↦ inl (h.0, ap (λ u. u ∷ front) (sym (the_head e)) ∙ ap (λ fs. z ∷ fs) h.1)
  | inr h ↦ elim h [
    | inl g ↦ inr (inl (ap (λ is. z ∷ is) g ∙ ap (λ z. z ∷ front) (the_head e)))
    | inr g ↦ inr (inr (g.0, ap (λ is. z ∷ is) g.1 ∙ ap (λ z. z ∷ (front ++ x ∷ g.0)) (the_head e)))
  ]
]
  where
    the_head : z ∷ (items ++ y ∷ more) ≡ u ∷ (front ++ x ∷ rest) → z ≡ u
    the_head e = cc

    the_tail : z ∷ (items ++ y ∷ more) ≡ u ∷ (front ++ x ∷ rest) → items ++ y ∷ more ≡ front ++ x ∷ rest
    the_tail e = cc

none_before_one : (items its : List Numbered) (y u : Numbered) → u ∷ [] ≡ items ++ y ∷ its → items ≡ []
none_before_one [] its y u e = refl
none_before_one (z ∷ []) its y u e = absurd cc
none_before_one (z ∷ w ∷ items) its y u e = absurd cc

one_before_two : (items its : List Numbered) (y u w : Numbered) → u ∷ w ∷ [] ≡ items ++ y ∷ its → (items ≡ []) ⊎ (items ≡ u ∷ [])
one_before_two [] its y u w e = inl refl
one_before_two (z ∷ []) its y u w e = inr (ap (λ z. z ∷ []) (the_head e))
  where
    the_head : u ∷ w ∷ [] ≡ z ∷ y ∷ its → z ≡ u
    the_head e = cc
one_before_two (z ∷ v ∷ []) its y u w e = absurd cc
one_before_two (z ∷ v ∷ t ∷ items) its y u w e = absurd cc

abbrev tail_of : List Numbered → List Numbered
tail_of [] = []
tail_of (x ∷ xs) = xs

cons_tail : (u : Numbered) (xs ys : List Numbered) → u ∷ xs ≡ u ∷ ys → xs ≡ ys
cons_tail u xs ys h = cc

no_more : (its more : List Numbered) (y : Numbered) → its ++ y ∷ more ≡ [] → ⊥
no_more [] more y h = absurd cc
no_more (z ∷ its) more y h = absurd cc

-- no packet comes after the end
too_long : (items more front : List Numbered) (y x : Numbered) (its : List Numbered) → items ≡ front ++ x ∷ its → items ++ y ∷ more ≡ front ++ x ∷ [] → ⊥
too_long items more front y x its g e = no_more its more y (shorter front (sym (append_assoc front (x ∷ its) (y ∷ more)) ∙ ap (λ is. is ++ y ∷ more) (sym g) ∙ e))
  where
    shorter : (fs : List Numbered) → fs ++ x ∷ (its ++ y ∷ more) ≡ fs ++ x ∷ [] → its ++ y ∷ more ≡ []
    shorter [] h = cons_tail x (its ++ y ∷ more) [] h
    shorter (u ∷ fs) h = shorter fs (cons_tail u (fs ++ x ∷ (its ++ y ∷ more)) (fs ++ x ∷ []) h)

before_login : (items its front : List Numbered) (y : Numbered) (server : Agreed) (tls : Bool) → Before server tls front → front ≡ items ++ y ∷ its → Stage items
before_login items its front y server false f e = inl (none_before_one items its y f.0 (sym f.1 ∙ e))
before_login items its front y server true f e = elim (one_before_two items its y f.0 f.1 (sym f.2 ∙ e)) [
  | inl h ↦ inl h
  | inr h ↦ inr (inl (server, false, (f.0, h, f.3)))
]

-- and if two more packets follow it
before_end : (items more front : List Numbered) (y x z : Numbered) (server : Agreed) (tls : Bool) → Before server tls front → IsNoLogin tls x → items ++ y ∷ more ≡ front ++ x ∷ z ∷ [] → Stage items
before_end items more front y x z server tls f n e = elim (where_is items more front (z ∷ []) y x e) [
  | inl g ↦ before_login items g.0 front y server tls f g.1
  | inr (inl g) ↦ inr (inl (server, tls, subst (λ xs. Before server tls xs) (sym g) f))
  | inr (inr g) ↦ after_it g.0 g.1
]
  where
    shorter : (its : List Numbered) → (front ++ x ∷ its) ++ y ∷ more ≡ front ++ x ∷ z ∷ [] → its ++ y ∷ more ≡ z ∷ []
    shorter its h = same_tail front (x ∷ its ++ y ∷ more) (x ∷ z ∷ []) (sym (append_assoc front (x ∷ its) (y ∷ more)) ∙ h)
      where
        same_tail : (fs xs ys : List Numbered) → fs ++ xs ≡ fs ++ ys → tail_of xs ≡ tail_of ys
        same_tail [] xs ys h = ap tail_of h
        same_tail (u ∷ fs) xs ys h = same_tail fs xs ys (cons_tail u (fs ++ xs) (fs ++ ys) h)

    after_it : (its : List Numbered) → items ≡ front ++ x ∷ its → Stage items
    after_it its g = inr (inr (inl (server, tls, front, x, g ∙ ap (λ its. front ++ x ∷ its) (none_before_one its more y z (sym (shorter its (ap (λ is. is ++ y ∷ more) (sym g) ∙ e)))), f, n)))

stage : (items more : List Numbered) (y : Numbered) → IsSession (items ++ y ∷ more) → Stage items
stage items more y (inl (inl h)) = inl (none_before_one items more y h.0 (sym h.1))
stage items more y (inl (inr (inl h))) = elim (where_is items more h.2 [] y h.3 h.4) [
  | inl g ↦ before_login items g.0 h.2 y h.0 h.1 h.5 g.1
  | inr (inl g) ↦ inr (inl (h.0, h.1, subst (λ xs. Before h.0 h.1 xs) (sym g) h.5))
  | inr (inr g) ↦ absurd (too_long items more h.2 y h.3 g.0 g.1 h.4)
]
stage items more y (inl (inr (inr h))) = before_end items more h.2 y h.3 h.4 h.0 h.1 h.6 h.7 h.5
stage items more y (inr h) = elim (where_is items more h.1 h.3 y h.2 h.4) [
  | inl g ↦ before_login items g.0 h.1 y h.5.0 h.5.2 h.5.3 g.1
  | inr g ↦ elim g [
    | inl e ↦ inr (inl (h.5.0, h.5.2, subst (λ xs. Before h.5.0 h.5.2 xs) (sym e) h.5.3))
    | inr e ↦ inr (inr (inr (h.0, h.1, h.2, e.0, e.1, h.5)))
  ]
]

-- ---- one kind

abbrev Same : PacketKind → PacketKind → ℕ → ℕ → Type 0
Same j k m n = (j ≡ k) × (m ≡ n)

abbrev Begins : Numbered → Type 0
Begins y = IsGreetingError y ⊎ ((server : Agreed) × IsGreeting server y)

same_greeting : (side : Side) (p : List ℕ) (j k : PacketKind) (m n : ℕ) → Begins (place side p j m) → Begins (place side p k n) → Same j k m n
same_greeting side p j k m n (inl g) (inl h) = (g.0.1 ∙ sym h.0.1, g.0.2 ∙ sym h.0.2)
same_greeting side p j k m n (inr g) (inr h) = (g.1.0.1 ∙ sym h.1.0.1, g.1.0.2 ∙ sym h.1.0.2)
same_greeting side p j k m n (inl g) (inr h) = let yes : first_is 0xff p ≡ true = g.1 in let no : first_is 0xff p ≡ false = h.1.1 in absurd cc
same_greeting side p j k m n (inr g) (inl h) = let no : first_is 0xff p ≡ false = g.1.1 in let yes : first_is 0xff p ≡ true = h.1 in absurd cc

plain_or_tls : (tls : Bool) (c : Agreed) (side : Side) (p : List ℕ) (j k : PacketKind) (m n : ℕ) → tls ≡ false → IsSslRequest (place side p j m) → IsLogin tls c (place side p k n) → ⊥
plain_or_tls true c side p j k m n e t l = absurd cc
plain_or_tls false c side p j k m n e t l =
    let same : t.1 ≡ l.1 = some_is (sym (login_at_of t.1 p t.2) ∙ login_at_of l.1 p l.2) in
    let yes : asks_tls l.1 ≡ true = ap asks_tls (sym same) ∙ t.3 in
    let no : asks_tls l.1 ≡ false = l.3 in absurd cc

-- whether it is a request for TLS, a login, or neither
no_request : (tls : Bool) (side : Side) (p : List ℕ) (j k : PacketKind) (m n : ℕ) → tls ≡ false → IsSslRequest (place side p j m) → IsNoLogin tls (place side p k n) → ⊥
no_request true side p j k m n e t l = absurd cc
no_request false side p j k m n e t l =
    let plain : asks_tls t.1 ≡ false = (l.1 t.1 t.2).0 in
    let yes : asks_tls t.1 ≡ true = t.3 in absurd cc

side_once : (s : Side) → s ≡ Client → s ≡ Server → ⊥
side_once s c e = let no : Client ≡ Server = sym c ∙ e in absurd cc

same_answer : (tls : Bool) (side : Side) (p : List ℕ) (j k : PacketKind) (m n : ℕ) → AnswersGreeting tls (place side p j m) → AnswersGreeting tls (place side p k n) → Same j k m n
same_answer tls side p j k m n (inl g) (inl h) = (g.1.0.1 ∙ sym h.1.0.1, g.1.0.2 ∙ sym h.1.0.2)
same_answer tls side p j k m n (inl g) (inr (inl h)) = absurd (plain_or_tls tls h.0 side p j k m n g.0 g.1 h.1)
same_answer tls side p j k m n (inl g) (inr (inr (inl h))) = absurd (no_request tls side p j k m n g.0 g.1 h)
same_answer tls side p j k m n (inl g) (inr (inr (inr h))) = absurd (side_once side g.1.0.0 h.0.0)
same_answer tls side p j k m n (inr (inl g)) (inl h) = absurd (plain_or_tls tls g.0 side p k j n m h.0 h.1 g.1)
same_answer tls side p j k m n (inr (inl g)) (inr (inl h)) = (g.1.0.1 ∙ sym h.1.0.1, g.1.0.2 ∙ sym h.1.0.2)
same_answer tls side p j k m n (inr (inl g)) (inr (inr (inl h))) = (g.1.0.1 ∙ sym h.0.1, g.1.0.2 ∙ sym h.0.2)
same_answer tls side p j k m n (inr (inl g)) (inr (inr (inr h))) = absurd (side_once side g.1.0.0 h.0.0)
same_answer tls side p j k m n (inr (inr (inl g))) (inl h) = absurd (no_request tls side p k j n m h.0 h.1 g)
same_answer tls side p j k m n (inr (inr (inl g))) (inr (inl h)) = (g.0.1 ∙ sym h.1.0.1, g.0.2 ∙ sym h.1.0.2)
same_answer tls side p j k m n (inr (inr (inl g))) (inr (inr (inl h))) = (g.0.1 ∙ sym h.0.1, g.0.2 ∙ sym h.0.2)
same_answer tls side p j k m n (inr (inr (inl g))) (inr (inr (inr h))) = absurd (side_once side g.0.0 h.0.0)
same_answer tls side p j k m n (inr (inr (inr g))) (inl h) = absurd (side_once side h.1.0.0 g.0.0)
same_answer tls side p j k m n (inr (inr (inr g))) (inr (inl h)) = absurd (side_once side h.1.0.0 g.0.0)
same_answer tls side p j k m n (inr (inr (inr g))) (inr (inr (inl h))) = absurd (side_once side h.0.0 g.0.0)
same_answer tls side p j k m n (inr (inr (inr g))) (inr (inr (inr h))) = (g.0.1 ∙ sym h.0.1, g.0.2 ∙ sym h.0.2)

same_by : (items : List Numbered) (side : Side) (p : List ℕ) (j k : PacketKind) (m n : ℕ) (xs ys : List Numbered) → Stage items → IsSession (items ++ place side p j m ∷ xs) → IsSession (items ++ place side p k n ∷ ys) → Same j k m n
same_by items side p j k m n xs ys (inl e) g h =
    same_greeting side p j k m n (begins_with (place side p j m) xs (subst (λ is. IsSession (is ++ place side p j m ∷ xs)) e g)) (begins_with (place side p k n) ys (subst (λ is. IsSession (is ++ place side p k n ∷ ys)) e h))
same_by items side p j k m n xs ys (inr (inl f)) g h =
    same_answer f.1 side p j k m n (answer_at (place side p j m) items xs f.0 f.1 f.2 g) (answer_at (place side p k n) items ys f.0 f.1 f.2 h)
same_by items side p j k m n xs ys (inr (inr (inl f))) g h =
    let a = error_of j m xs g in
    let b = error_of k n ys h in
    (a.0.1 ∙ sym b.0.1, a.0.2 ∙ sym b.0.2)
  where
    error_of : (l : PacketKind) (i : ℕ) (zs : List Numbered) → IsSession (items ++ place side p l i ∷ zs) → IsLoginError (place side p l i)
    error_of l i zs s =
        let y = place side p l i in
        (error_at f.0 f.1 f.2 f.3 y zs f.5 f.6 (subst (λ xs. IsSession xs) (ap (λ is. is ++ y ∷ zs) f.4 ∙ append_assoc f.2 (f.3 ∷ []) (y ∷ zs)) s)).0
same_by items side p j k m n xs ys (inr (inr (inr t))) g h =
    pipe_one_kind t.0 Login t.3 side p j k m n (rest_of j m xs g) (rest_of k n ys h)
  where
    rest_of : (l : PacketKind) (i : ℕ) (zs : List Numbered) → IsSession (items ++ place side p l i ∷ zs) → (more : List Numbered) × IsPipelined t.0 Login ((t.3 ++ place side p l i ∷ []) ++ more)
    rest_of l i zs s =
        let y = place side p l i in
        let at : IsSession (t.1 ++ t.2 ∷ (t.3 ++ y ∷ zs)) = subst (λ xs. IsSession xs) (ap (λ is. is ++ y ∷ zs) t.4 ∙ append_assoc t.1 (t.2 ∷ t.3) (y ∷ zs)) s in
        (zs, subst (λ xs. IsPipelined t.0 Login xs) (sym (append_assoc t.3 (y ∷ []) zs)) (session_rest t.0 t.1 t.2 (t.3 ++ y ∷ zs) t.5 at))

pub session_one_kind : (items : List Numbered) (side : Side) (p : List ℕ) (j k : PacketKind) (m n : ℕ)
    → IsSessionBeginning (items ++ place side p j m ∷ []) → IsSessionBeginning (items ++ place side p k n ∷ []) → (j ≡ k) × (m ≡ n)
session_one_kind items side p j k m n g h =
    let a = subst (λ xs. IsSession xs) (append_assoc items (place side p j m ∷ []) g.0) g.1 in
    let b = subst (λ xs. IsSession xs) (append_assoc items (place side p k n ∷ []) h.0) h.1 in
    same_by items side p j k m n g.0 h.0 (stage items g.0 (place side p j m) a) a b
