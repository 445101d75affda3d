-- The session changes of an OK packet, one by one.
use Rattle.std.proofs.Common.{◌≡◌, ℕ, List, [], ◌∷◌, ◌++◌, Some, refl, sym, ap, subst, ◌∙◌, append_assoc, append-nil}
use Rattle.mysql_session.specs.declared.system_variable.SystemVariable.{SystemVariable}
use Rattle.mysql_replies.specs.SessionStateChangesRef.{NextChangeRef}
use Rattle.mysql_show.specs.Fields.{Said}
use Rattle.mysql_recorder.specs.ChangeFields.{AreChanges, Change, changes_fields, read_fields, variable_fields}

-- these changes are appended, up to this rest
pub record ShowsChanges (bytes rest : List ℕ) (first fields : List Said) : Type 0 where
  pub done : List Change
  pub read : AreChanges bytes rest done
  pub shown : fields ≡ first ++ changes_fields done

pub changes_begin : (bytes : List ℕ) (first : List Said) → ShowsChanges bytes bytes first first
changes_begin bytes first = record { done = []; read = refl; shown = sym (append-nil first) }

read_more : (bytes rest after : List ℕ) (c : Change) (done : List Change) → AreChanges bytes rest done → NextChangeRef rest (Some c) after → AreChanges bytes after (done ++ c ∷ [])
read_more bytes rest after c [] h g = (after, subst (λ b. NextChangeRef b (Some c) after) (sym h) g, refl)
read_more bytes rest after c (d ∷ done) h g = (h.0, h.1, read_more h.0 rest after c done h.2 g)

fields_more : (done : List Change) (c : Change) → changes_fields (done ++ c ∷ []) ≡ changes_fields done ++ read_fields c
fields_more [] c = append-nil (read_fields c)
fields_more (d ∷ done) c = ap (λ q. read_fields d ++ q) (fields_more done c) ∙ sym (append_assoc (read_fields d) (changes_fields done) (read_fields c))

pub changes_step : (bytes rest after : List ℕ) (c : Change) (first before fields : List Said) → ShowsChanges bytes rest first before → NextChangeRef rest (Some c) after → fields ≡ before ++ read_fields c
    → ShowsChanges bytes after first fields
changes_step bytes rest after c first before fields h g e = record {
  done = h.done ++ c ∷ [];
  read = read_more bytes rest after c h.done h.read g;
  shown = e ∙ ap (λ q. q ++ read_fields c) h.shown ∙ append_assoc first (changes_fields h.done) (read_fields c) ∙ ap (λ q. first ++ q) (sym (fields_more h.done c));
}

pub changes_end : (bytes rest : List ℕ) (first fields : List Said) → ShowsChanges bytes rest first fields → rest ≡ [] → (changes : List Change) × AreChanges bytes [] changes × (fields ≡ first ++ changes_fields changes)
changes_end bytes rest first fields h e = (h.done, subst (λ r. AreChanges bytes r h.done) e h.read, h.shown)

pub ruleset changes = (changes_begin, changes_step, changes_end)

-- the variables of a change
pub variables_step : (left others : List SystemVariable) (v : SystemVariable) (first now named after : List Said) (x y : Said) (whole : List Said) → left ≡ v ∷ others → named ≡ now ++ x ∷ [] → after ≡ named ++ y ∷ []
    → variable_fields (v ∷ []) ≡ x ∷ y ∷ [] → now ++ variable_fields left ≡ first ++ whole → after ++ variable_fields others ≡ first ++ whole
variables_step left others v first now named after x y whole e f g is h =
    ap (λ q. q ++ variable_fields others) (g ∙ ap (λ q. q ++ y ∷ []) f) ∙ append_assoc (now ++ x ∷ []) (y ∷ []) (variable_fields others) ∙ append_assoc now (x ∷ []) (y ∷ variable_fields others)
    ∙ ap (λ q. now ++ (q ++ variable_fields others)) (sym is) ∙ ap (λ vs. now ++ variable_fields vs) (sym e) ∙ h
