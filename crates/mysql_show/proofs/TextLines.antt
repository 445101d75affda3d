-- Lines of fields.
use Rattle.std.proofs.Common.{◌≡◌, ℕ, ◌+◌, ◌<◌, ◌≤◌, List, [], ◌∷◌, ◌++◌, false, length, get_or, drop, refl, sym, ap, subst, ◌∙◌, append_assoc, append-nil, codes, OnErr, Result, Ok, Err}
use Rattle.std.proofs.lemmas.Bool.{or_parts}
use Rattle.std.proofs.lemmas.List.{drop_more, drop_all}
use Rattle.mysql_values.specs.Value.{Content}
use Rattle.mysql_values.specs.Value as value
use Rattle.mysql_show.specs.Appended.{Stays}
use Rattle.mysql_show.specs.Fields.{Held, Number, Bytes, Digits, Word, Flag, Value, WithOffset, OptionalNumber, OptionalBytes, Said, is_float, have_float, value_is_float}
use Rattle.mysql_show.specs.FieldText.{IsValueText, IsHeldText, IsLine, AreLines, AppendsLines, value_text, held_text, line_of, lines_of}

-- ---- without floats there is one text

value_plain : (v : Content) (text : List ℕ) → value_is_float v ≡ false → IsValueText v text → text ≡ value_text v
value_plain (value.Float bits) text n h = absurd cc
value_plain (value.Double bits) text n h = absurd cc
value_plain _ text n h = h

held_plain : (held : Held) (text : List ℕ) → is_float held ≡ false → IsHeldText held text → text ≡ held_text held
held_plain (Value v) text n h = value_plain v text n h
held_plain _ text n h = h

line_plain : (f : Said) (line : List ℕ) → is_float f.held ≡ false → IsLine f line → line ≡ line_of f
unfolding line_of
line_plain f line n h = h.2 ∙ ap (λ (t : List ℕ). f.name ++ (codes ": " ++ (t ++ codes "\n"))) (held_plain f.held h.0 n h.1)

lines_plain : (fields : List Said) (text : List ℕ) → have_float fields ≡ false → AreLines fields text → text ≡ lines_of fields
lines_plain [] text n h = h
lines_plain (f ∷ fields) text n h =
    let p = or_parts (is_float f.held) (have_float fields) n in
    h.4 ∙ ap (λ (l : List ℕ). l ++ h.1) (line_plain f h.0 p.0 h.2) ∙ ap (λ (r : List ℕ). line_of f ++ r) (lines_plain fields h.1 p.1 h.3)

pub plain_lines : (fields : List Said) (old new : List ℕ) → AppendsLines fields old new → have_float fields ≡ false → new ≡ old ++ lines_of fields
plain_lines fields old new h n = h.2 ∙ ap (λ (t : List ℕ). old ++ t) (lines_plain fields h.0 n h.1)

-- ---- in order

abbrev pub Follows : List Said → List Said → (initial out : List ℕ) → Type 0
Follows fields left initial out = (rest : List ℕ) → AreLines left rest → (text : List ℕ) × AreLines fields text × (out ++ rest ≡ initial ++ text)

pub none_yet : (fields : List Said) (out : List ℕ) → Follows fields fields out out
none_yet fields out = λ rest h. (rest, h, refl)

pub one_line : (fields : List Said) (i : ℕ) (f : Said) (initial out new : List ℕ) → i < length fields → f ≡ get_or fields i f
    → (line : List ℕ) × IsLine f line × (new ≡ out ++ line) → Follows fields (drop i fields) initial out → Follows fields (drop (i + 1) fields) initial new
one_line fields i f initial out new lt is h follows = λ rest r.
    let left : drop i fields ≡ f ∷ drop (i + 1) fields = drop_more fields i f lt ∙ ap (λ x. x ∷ drop (i + 1) fields) (sym is) in
    let more : AreLines (f ∷ drop (i + 1) fields) (h.0 ++ rest) = (h.0, rest, h.1, r, refl) in
    let g = follows (h.0 ++ rest) (subst (λ l. AreLines l (h.0 ++ rest)) (sym left) more) in
    (g.0, g.1, ap (λ (t : List ℕ). t ++ rest) h.2 ∙ append_assoc out h.0 rest ∙ g.2)

pub all_lines : (fields : List Said) (i : ℕ) (initial out : List ℕ) → length fields ≤ i → Follows fields (drop i fields) initial out → AppendsLines fields initial out
all_lines fields i initial out le follows =
    let g = follows [] (subst (λ l. AreLines l []) (sym (drop_all i fields le)) refl) in
    (g.0, g.1, sym (append-nil out) ∙ g.2)

-- ---- earlier text is kept

pub stays_same : (old new : List ℕ) → new ≡ old → Stays old new
stays_same old new e = ([], e ∙ sym (append-nil old))

pub stays_more : (old mid new : List ℕ) → Stays old mid → Stays mid new → Stays old new
stays_more old mid new a b = (a.0 ++ b.0, b.1 ∙ ap (λ (t : List ℕ). t ++ b.0) a.1 ∙ append_assoc old a.0 b.0)

pub on_err : {T E P Q : Type 0} (r : Result T E) → (P → Q) → OnErr r P → OnErr r Q
on_err (Ok x) f h = tt
on_err (Err e) f h = f h

pub ruleset stay = (stays_same, stays_more)
