-- Attributes as they were sent, without repeated keys, are the attributes.
use Rattle.std.proofs.Common.{◌≡◌, ℕ, List, [], ◌∷◌, Ok, Err, Some, Bool, true, false, refl, ap, ◌∙◌}
use Rattle.std.specs.Option.{option_map}
use Rattle.mysql_wire.specs.Form.{whole, when}
use Rattle.mysql_wire.specs.LenEnc.{lenenc_string}
use Rattle.mysql_wire.specs.Many.{many}
use Rattle.mysql_wire.specs.Reading.{Reading, then_read}
use Rattle.mysql_auth.specs.Attributes.{Attribute, attribute, attributes, attributes_as_sent, merged}

-- a reading whose value is mapped
abbrev pub made : {A B : Type 0} → (A → B) → Reading A → Reading B
made make read = then_read read (λ x rest. Ok (make x, rest))

-- a mapped reading of a front and what follows
pub after-front : {A B C : Type 0} (make : B → C) (front : Reading A) (sent : A → List ℕ → Reading B) (once : A → List ℕ → Reading C)
    → ((x : A) (rest : List ℕ) → made make (sent x rest) ≡ once x rest) → made make (then_read front sent) ≡ then_read front once
after-front make (Ok x) sent once h = h x.0 x.1
after-front make (Err e) sent once h = refl

-- a last part that is stored in the front part
pub last-put : {A P : Type 0} (on_part : A → A) (on_packet : P → P) (put : A → P) (read : Reading A) → ((x : A) → on_packet (put x) ≡ put (on_part x))
    → made on_packet (made put read) ≡ made put (made on_part read)
last-put on_part on_packet put (Ok x) h = ap (λ (p : _). Ok (p, x.1)) (h x.0)
last-put on_part on_packet put (Err e) h = refl

inside : (read : Reading (List Attribute)) (rest : List ℕ) → made merged (whole read rest) ≡ whole (made merged read) rest
inside (Ok x) rest = by x.1
  where
    by : (left : List ℕ) → made merged (whole (Ok (x.0, left)) rest) ≡ whole (made merged (Ok (x.0, left))) rest
    by [] = refl
    by (b ∷ bs) = refl
inside (Err e) rest = refl

pub attributes-once : (bytes : List ℕ) → made merged ((attributes_as_sent.form tt).reads bytes) ≡ (attributes.form tt).reads bytes
unfolding attributes attributes_as_sent
attributes-once bytes =
    after-front merged (lenenc_string.reads bytes) _ _ (λ content rest. inside ((many (attribute.form tt)).reads content) rest)

some-made : {A : Type 0} (make : A → A) (read : Reading A) → made (option_map make) (made Some read) ≡ made Some (made make read)
some-made make (Ok x) = refl
some-made make (Err e) = refl

-- if they are sent
pub given-once : (sent : Bool) (bytes : List ℕ)
    → made (option_map merged) ((when sent (attributes_as_sent.form tt)).reads bytes) ≡ (when sent (attributes.form tt)).reads bytes
given-once true bytes = some-made merged ((attributes_as_sent.form tt).reads bytes) ∙ ap (λ (read : Reading (List Attribute)). made Some read) (attributes-once bytes)
given-once false bytes = refl
