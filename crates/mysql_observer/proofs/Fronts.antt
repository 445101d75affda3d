-- The kept part of a pipelined command has all that affects the statements.
use Rattle.std.proofs.Common.{◌≡◌, ℕ, suc, ◌≤◌, ◌==◌, ◌||◌, min, length, take, nat_lt, Bool, true, false, List, [], ◌∷◌, Option, None, Some, refl, sym, ap, ◌∙◌, arith, if◌then◌else◌}
use Rattle.std.proofs.lemmas.Bool.{eqb-true, ltb-true}
use Rattle.mysql_wire.specs.Form.{bytes, number}
use Rattle.mysql_wire.specs.Int.{raw}
use Rattle.mysql_wire.specs.Constant.{const_byte}
use Rattle.mysql_stmt.specs.LongData.{long_data}
use Rattle.mysql_conversation.specs.Agreements.{Agreed}
use Rattle.mysql_conversation.specs.Conversation.{code_of}
use Rattle.mysql_statements.specs.After.{asked, asked_one, for_data, is_of_one}
use Rattle.mysql_statements.specs.Packets.{data_at, number_at}
use Rattle.mysql_statements.specs.Table.{Table, otherwise}
use Rattle.mysql_observer.specs.Tracked.{command_taken, front}

-- ---- numbers at the front

no_less_when : (m n : ℕ) (b : Bool) → nat_lt m n ≡ b → n ≤ m → b ≡ false
no_less_when m n true e h = absurd (let k = ltb-true m n e in omega (arith, k, h))
no_less_when m n false e h = refl

no_less : (m n : ℕ) → n ≤ m → nat_lt m n ≡ false
no_less m n h = no_less_when m n (nat_lt m n) refl h

abbrev cut : List ℕ → List ℕ
cut p = take (min (length p) 7) p

cut_long : (a b c d e f g : ℕ) (r : List ℕ) → cut (a ∷ b ∷ c ∷ d ∷ e ∷ f ∷ g ∷ r) ≡ a ∷ b ∷ c ∷ d ∷ e ∷ f ∷ g ∷ []
cut_long a b c d e f g r = let m : min (length (a ∷ b ∷ c ∷ d ∷ e ∷ f ∷ g ∷ r)) 7 ≡ 7 = omega arith in ap (λ n. take n (a ∷ b ∷ c ∷ d ∷ e ∷ f ∷ g ∷ r)) m

number_long : (a b c d e f g : ℕ) (r : List ℕ) → number_at (a ∷ b ∷ c ∷ d ∷ e ∷ f ∷ g ∷ []) ≡ number_at (a ∷ b ∷ c ∷ d ∷ e ∷ f ∷ g ∷ r)
unfolding number_at bytes number raw
number_long a b c d e f g r =
    let one = no_less (length (a ∷ b ∷ c ∷ d ∷ e ∷ f ∷ g ∷ r)) 1 (omega arith) in
    let four = no_less (length (b ∷ c ∷ d ∷ e ∷ f ∷ g ∷ r)) 4 (omega arith) in
    rw (one, four) refl

number_cut : (p : List ℕ) → number_at (cut p) ≡ number_at p
number_cut (a ∷ b ∷ c ∷ d ∷ e ∷ f ∷ g ∷ r) = ap number_at (cut_long a b c d e f g r) ∙ number_long a b c d e f g r
number_cut _ = refl

data_long : (b c d e f g : ℕ) (r : List ℕ) → data_at (0x18 ∷ b ∷ c ∷ d ∷ e ∷ f ∷ g ∷ []) ≡ data_at (0x18 ∷ b ∷ c ∷ d ∷ e ∷ f ∷ g ∷ r)
unfolding data_at long_data bytes number raw const_byte
data_long b c d e f g r =
    let one = no_less (length (0x18 ∷ b ∷ c ∷ d ∷ e ∷ f ∷ g ∷ r)) 1 (omega arith) in
    let four = no_less (length (b ∷ c ∷ d ∷ e ∷ f ∷ g ∷ r)) 4 (omega arith) in
    let two = no_less (length (f ∷ g ∷ r)) 2 (omega arith) in
    rw (one, four, two) refl

data_cut : (p : List ℕ) → code_of p ≡ 0x18 → data_at (cut p) ≡ data_at p
data_cut [] h = refl
data_cut (a ∷ []) h = refl
data_cut (a ∷ b ∷ []) h = refl
data_cut (a ∷ b ∷ c ∷ []) h = refl
data_cut (a ∷ b ∷ c ∷ d ∷ []) h = refl
data_cut (a ∷ b ∷ c ∷ d ∷ e ∷ []) h = refl
data_cut (a ∷ b ∷ c ∷ d ∷ e ∷ f ∷ []) h = refl
data_cut (a ∷ b ∷ c ∷ d ∷ e ∷ f ∷ g ∷ r) h =
    ap data_at (cut_long a b c d e f g r) ∙ ap (λ k. data_at (k ∷ b ∷ c ∷ d ∷ e ∷ f ∷ g ∷ [])) h ∙ data_long b c d e f g r ∙ sym (ap (λ k. data_at (k ∷ b ∷ c ∷ d ∷ e ∷ f ∷ g ∷ r)) h)

code_cut : (p : List ℕ) → code_of (cut p) ≡ code_of p
code_cut [] = refl
code_cut (a ∷ r) = let n : min (length (a ∷ r)) 7 ≡ suc (min (length r) 6) = omega arith in ap (λ n. code_of (take n (a ∷ r))) n

-- ---- the effect of a command

branch : {A : Type 0} (b : Bool) (x y u v : A) → (b ≡ true → x ≡ y) → (b ≡ false → u ≡ v) → (if b then x else u) ≡ (if b then y else v)
branch true x y u v f g = f refl
branch false x y u v f g = g refl

-- of the commands with a statement's number only executions depend on what follows it
one_same : {A : Type 0} (b17 bfa b1c b19 b1a : Bool) (closed reset fetched bulk bulk' single single' : A) → (b17 || bfa || b1c || b19 || b1a) ≡ true → (b17 || bfa) ≡ false
    → (if b19 then closed else (if b1a then reset else (if b1c then fetched else (if bfa then bulk else single))))
    ≡ (if b19 then closed else (if b1a then reset else (if b1c then fetched else (if bfa then bulk' else single'))))
one_same false false b1c true b1a closed reset fetched bulk bulk' single single' e n = refl
one_same false false b1c false true closed reset fetched bulk bulk' single single' e n = refl
one_same false false true false false closed reset fetched bulk bulk' single single' e n = refl
one_same _ _ _ _ _ closed reset fetched bulk _ single _ e n = absurd cc

asked_one_same : (a : Agreed) (code : ℕ) (p q : List ℕ) (id : Option ℕ) (t : Table) → is_of_one code ≡ true → (code == 0x17 || code == 0xfa) ≡ false → asked_one a code q id t ≡ asked_one a code p id t
asked_one_same a code p q None t e n = refl
asked_one_same a code p q (Some id) t e n = one_same (code == 0x17) (code == 0xfa) (code == 0x1c) (code == 0x19) (code == 0x1a) _ _ _ _ _ _ _ e n

asked_same : (a : Agreed) (code : ℕ) (p q : List ℕ) (t : Table) → (code ≡ 0x18 → data_at q ≡ data_at p) → number_at q ≡ number_at p → (code == 0x17 || code == 0xfa) ≡ false → asked a code q t ≡ asked a code p t
asked_same a code p q t same id n =
    branch (code == 0x16) _ _ _ _ (λ e. refl) (λ e. branch (code == 0x11) _ _ _ _ (λ e. refl) (λ e. branch (code == 0x1f) _ _ _ _ (λ e. refl) (λ e.
    branch (code == 0x18) _ _ _ _ (λ e. ap (λ d. for_data d t) (same (eqb-true code 0x18 e))) (λ e.
    branch (is_of_one code) _ _ (otherwise t) (otherwise t) (λ e. ap (λ i. asked_one a code q i t) id ∙ asked_one_same a code p q (number_at p) t e n) (λ e. refl)))))

taken_when : (b : Bool) (a : Agreed) (p : List ℕ) (t : Table) → (code_of p == 0x17 || code_of p == 0xfa) ≡ b → command_taken a (if b then p else cut p) t ≡ command_taken a p t
taken_when true a p t e = refl
taken_when false a p t e = ap (λ code. asked a code (cut p) t) (code_cut p) ∙ asked_same a (code_of p) p (cut p) t (λ h. data_cut p h) (number_cut p) e

pub front_taken : (a : Agreed) (p : List ℕ) (t : Table) → command_taken a (front p) t ≡ command_taken a p t
front_taken a p t = taken_when (code_of p == 0x17 || code_of p == 0xfa) a p t refl
