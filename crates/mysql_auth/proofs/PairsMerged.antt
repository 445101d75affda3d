-- Pairs that the whole content spells, each key once.
use Rattle.std.proofs.Common.{◌≡◌, ◌≢◌, ℕ, List, [], ◌∷◌, length, Ok, Err, refl, sym, ◌∙◌}
use Rattle.mysql_wire.proofs.AllRead.{goes-on, refused}
use Rattle.mysql_wire.specs.declared.fault.FaultOf.{FaultOf}
use Rattle.mysql_wire.specs.declared.fault.FaultOf.TheVariants as fault
use Rattle.mysql_wire.specs.declared.fault.FaultKind.{FaultKind}
use Rattle.mysql_wire.specs.Many.{many}
use Rattle.mysql_wire.specs.Seq.{is_any}
use Rattle.mysql_wire.specs.Reading.{Reading, Faults, then_read, done-value}
use Rattle.mysql_auth.specs.AttributeBytes.{pairs_room}
use Rattle.mysql_auth.specs.Attributes.{Attribute, merged, pairs}
use Rattle.mysql_auth.specs.ConnectAttributesRef.{ArePairs, pairs_in}
use Rattle.mysql_auth.proofs.PairsRead.{f}

pub merged-read : (bytes : List ℕ) → ArePairs bytes → pairs.reads bytes ≡ Ok (merged (pairs_in bytes), [])
merged-read bytes w = merged-of ((many f).reads bytes) (pairs_in bytes) w
  where
    merged-of : (read : Reading (List Attribute)) (found : List Attribute) → read ≡ Ok (found, []) → then_read read (λ ps rest. Ok (merged ps, rest)) ≡ Ok (merged found, [])
    merged-of read found e = rw e refl

pub merged-found : (bytes : List ℕ) (found : List Attribute) → ArePairs bytes → pairs.reads bytes ≡ Ok (found, []) → found ≡ merged (pairs_in bytes)
merged-found bytes found w e = done-value found (merged (pairs_in bytes)) [] [] (sym e ∙ merged-read bytes w)

-- only the empty content spells no pair
no-pairs-by : (bytes : List ℕ) (read : Reading Attribute) → f.reads bytes ≡ read → bytes ≢ [] → ArePairs bytes → pairs_in bytes ≡ [] → ⊥
no-pairs-by bytes (Ok x) e some w none =
    let first : pairs_in bytes ≡ x.0 ∷ pairs_in x.1 = (goes-on f bytes x.1 x.0 some w e).1 in
    let h : ◌≡◌ {A = List Attribute} [] (x.0 ∷ pairs_in x.1) = sym none ∙ first in
    cc
no-pairs-by bytes (Err k) e some w none = refused f bytes k some w e

read-once : (bytes : List ℕ) (k : FaultKind) → ArePairs bytes → pairs.reads bytes ≡ Err k → ⊥
read-once bytes k w h = let same : ◌≡◌ {A = Reading (List Attribute)} (Ok (merged (pairs_in bytes), [])) (Err k) = sym (merged-read bytes w) ∙ h in cc

-- so a refusal for memory means that there is a pair
none-refused_again : (bytes : List ℕ) (e : FaultOf) → ArePairs bytes → pairs_in bytes ≡ [] → Faults (is_any (pairs_room (length bytes))) e (pairs.reads bytes) → ⊥
none-refused_again [] fault.Memory w none h = cc
none-refused_again (b ∷ bytes) fault.Memory w none h = no-pairs-by (b ∷ bytes) (f.reads (b ∷ bytes)) refl (λ e. cc) w none
none-refused_again bytes fault.UnexpectedEof w none h = read-once bytes _ w h
none-refused_again bytes (fault.InvalidData text) w none h = read-once bytes _ w h
none-refused_again bytes (fault.InvalidInput text) w none h = read-once bytes _ w h

pub no-pairs : (pairs_left : List Attribute) (bytes : List ℕ) (e : FaultOf) → pairs_in bytes ≡ pairs_left → ArePairs bytes → pairs_left ≡ []
    → Faults (is_any (pairs_room (length bytes))) e (pairs.reads bytes) → ⊥
no-pairs pairs_left bytes e same w none h = none-refused_again bytes e w (same ∙ none) h

pub ruleset pairs_merged = (merged-read, merged-found)
