-- A text written in pieces.
use Rattle.std.proofs.Common.{◌≡◌, ◌⊎◌, inl, inr, ◌∙◌, ◌-◌, arith, ℕ, List, [], ◌∷◌, ◌++◌, length, Option, Some, None, true, false, Bool, take, drop, refl, sym, subst, ap, append_assoc, append-nil}
use Rattle.std.proofs.KnownBytes.{Appends-nil, Appends-trans, Appends-kept}
use Rattle.std.proofs.lemmas.List.{take-append-drop, take_all, length-drop}
use Rattle.std.specs.Io.KnownBytes.{Appends, Keeps}
use Rattle.mysql_show.specs.Output.{Answer, IsCut, IsFront, IsWritten}

-- nothing is written yet
pub cut_none : (text : List ℕ) (old : Option (List ℕ)) → IsCut text text old old
cut_none text old = record { front = []; parts = refl; written = Appends-nil old }

-- the writer accepted more bytes
pub cut_more : (text rest : List ℕ) (a b c : Option (List ℕ)) (n : ℕ) → IsCut text rest a b → Appends b c (take n rest) → IsCut text (take (length rest - n) (drop n rest)) a c
cut_more text rest a b c n cut more =
    let left : take (length rest - n) (drop n rest) ≡ drop n rest = take_all (length rest - n) (drop n rest) (omega (arith, length-drop n rest)) in
    record {
      front = cut.front ++ take n rest;
      parts = cut.parts ∙ ap (λ (l : List ℕ). cut.front ++ l) (sym (take-append-drop n rest)) ∙ sym (append_assoc cut.front (take n rest) (drop n rest)) ∙ ap (λ (l : List ℕ). (cut.front ++ take n rest) ++ l) (sym left);
      written = Appends-trans a b c cut.front (take n rest) cut.written more;
    }

-- the writer accepted nothing
pub cut_keeps : (text rest : List ℕ) (a b c : Option (List ℕ)) → IsCut text rest a b → Keeps b c → IsCut text rest a c
cut_keeps text rest a b c cut same = record { front = cut.front; parts = cut.parts; written = Appends-kept a b c cut.front cut.written same }

-- everything is written
pub cut_all : (text rest : List ℕ) (a b : Option (List ℕ)) → length rest ≡ 0 → IsCut text rest a b → Appends a b text
cut_all text [] a b e cut =
    let P : List ℕ → Type 0 = λ l. Appends a b l in
    subst P (sym (cut.parts ∙ append-nil cut.front)) cut.written
cut_all text (x ∷ xs) a b e cut = absurd cc

-- a text precedes it
pub cut_after : (w text rest : List ℕ) (a b c : Option (List ℕ)) → Appends a b w → IsCut text rest b c → IsCut (w ++ text) rest a c
cut_after w text rest a b c first cut = record {
  front = w ++ cut.front;
  parts = ap (λ (l : List ℕ). w ++ l) cut.parts ∙ sym (append_assoc w cut.front rest);
  written = Appends-trans a b c w cut.front first cut.written;
}

-- a text that would follow it
pub cut_longer : (text rest more : List ℕ) (a b : Option (List ℕ)) → IsCut text rest a b → IsCut (text ++ more) (rest ++ more) a b
cut_longer text rest more a b cut = record {
  front = cut.front;
  parts = ap (λ (l : List ℕ). l ++ more) cut.parts ∙ append_assoc cut.front rest more;
  written = cut.written;
}

-- the rest of an answer, after its written front
pub written_after : (w : List ℕ) (answer : Answer) (a b c : Option (List ℕ)) (status : ℕ) → Appends a b w → IsWritten answer b c status
    → IsWritten (record { text = w ++ answer.text; status = answer.status }) a c status
written_after w answer a b c status first (inl h) = inl (Appends-trans a b c w answer.text first h.0, h.1)
written_after w answer a b c status first (inr h) = inr ((h.0.0, cut_after w answer.text h.0.0 a b c first h.0.1), h.1)

-- a writer to which nothing is written is unchanged
pub keeps_same : (old : Option (List ℕ)) → Keeps old old
keeps_same None = tt
keeps_same (Some xs) = refl
