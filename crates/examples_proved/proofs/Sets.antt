-- What the text of a set of GTIDs is refused for, as its entries come.
use Rattle.std.proofs.Common.{◌≡◌, List, [], ◌∷◌, Option, Some, None, Result, Ok, Err, refl, sym, ap, ◌∙◌}
use Rattle.mysql_packets.specs.GtidSetEntries.{Entry, alone, sids_of, with_entry}
use Rattle.mysql_packets.specs.GtidSetText.{Found}
use Rattle.mysql_packets.specs.declared.packets.GtidSetEntry.{GtidSetEntry}
use Rattle.mysql_packets.specs.declared.packets.GtidSetEntry.TheVariants as entry
use Rattle.mysql_packets.specs.declared.packets.InvalidSid.{InvalidSid}
use Rattle.mysql_packets.specs.declared.packets.Sid.{Sid}
use Rattle.examples_proved.specs.Refused.{refused_for}

alone-refused : (r : Result (List Sid) InvalidSid) → refused_for (alone r) ≡ refused_for r
alone-refused (Ok sids) = refl
alone-refused (Err e) = refl

entry-refused : (x : GtidSetEntry) (r : Result Found InvalidSid) → refused_for (with_entry x r) ≡ refused_for r
entry-refused (entry.Interval i) (Ok found) = refl
entry-refused (entry.Interval i) (Err e) = refl
entry-refused (entry.Sid s) (Ok found) = refl
entry-refused (entry.Sid s) (Err e) = refl

-- what is left is refused for what all is
pub first-left : (all : List Entry) (r : Result (List Sid) InvalidSid) → sids_of all ≡ alone r → refused_for (sids_of all) ≡ refused_for r
first-left all r h = ap refused_for h ∙ alone-refused r

pub left-next : (left more : List Entry) (x : GtidSetEntry) (o : Option InvalidSid) → left ≡ Ok x ∷ more → refused_for (sids_of left) ≡ o → refused_for (sids_of more) ≡ o
left-next left more x o split h = sym (entry-refused x (sids_of more)) ∙ ap (λ (l : List Entry). refused_for (sids_of l)) (sym split) ∙ h

pub left-refused : (left more : List Entry) (e : InvalidSid) (o : Option InvalidSid) → left ≡ Err e ∷ more → refused_for (sids_of left) ≡ o → Some e ≡ o
left-refused left more e o split h = ap (λ (l : List Entry). refused_for (sids_of l)) (sym split) ∙ h

pub left-none : (left : List Entry) (o : Option InvalidSid) → left ≡ [] → refused_for (sids_of left) ≡ o → None ≡ o
left-none left o none h = ap (λ (l : List Entry). refused_for (sids_of l)) (sym none) ∙ h

pub ruleset sets = (first-left, left-next, left-refused, left-none)
