-- Fields that are appended, also in two steps.
use Rattle.std.proofs.Common.{◌≡◌, List, ◌++◌, Result, Ok, Err, OnOk, ap, ◌∙◌, append_assoc}

pub appended_then : {A : Type 0} (first mid last a b x y : List A) → x ≡ a → y ≡ b → mid ≡ first ++ x → last ≡ mid ++ y → last ≡ first ++ (a ++ b)
appended_then first mid last a b x y e f h g = g ∙ ap (λ q. q ++ y) (h ∙ ap (λ q. first ++ q) e) ∙ append_assoc first a y ∙ ap (λ q. first ++ (a ++ q)) f

pub appended_on_ok : {A : Type 0} {E : Type 0} (r : Result (Unit {0}) E) (first mid last a b x y : List A) → x ≡ a → y ≡ b → mid ≡ first ++ x → OnOk r (last ≡ mid ++ y) → OnOk r (last ≡ first ++ (a ++ b))
appended_on_ok (Ok u) first mid last a b x y e f h g = appended_then first mid last a b x y e f h g
appended_on_ok (Err e) first mid last a b x y p f h g = tt

pub appended_as : {A : Type 0} {E : Type 0} (r : Result (Unit {0}) E) (first last a x : List A) → x ≡ a → OnOk r (last ≡ first ++ x) → OnOk r (last ≡ first ++ a)
appended_as (Ok u) first last a x e g = g ∙ ap (λ q. first ++ q) e
appended_as (Err y) first last a x e g = tt
