-- A loop that reads intervals into places.
use Rattle.std.proofs.Common.{◌≡◌, ◌≢◌, ℕ, ◌<◌, ◌≤◌, ◌+◌, List, [], ◌∷◌, ◌++◌, length, take, slice_set, Option, Some, None, option_map, Result, Ok, Err, IfOk, refl, sym, ap, subst, ◌∙◌, arith}
use Rattle.std.specs.Result.{result_ok}
use Rattle.std.proofs.lemmas.List.{length-append, map-append, take_more_set}
use Rattle.mysql_repl.specs.SidText.{SidParts, all_read, sid_of, sid_with}
use Rattle.mysql_repl.specs.declared.gno_interval.GnoInterval.{GnoInterval}
use Rattle.mysql_repl.specs.declared.sid_text.InvalidSid.{InvalidSid}
use Rattle.mysql_repl.proofs.SidLoops.{with_front, next-interval, no-interval, all-intervals}
use Rattle.mysql_repl.proofs.SidLoops as loops
use Rattle.mysql_packets_c.specs.declared.sid.CInterval.{CInterval}
use Rattle.mysql_repl.specs.declared.sid.Sid.{Sid}
use Rattle.mysql_packets_c.specs.declared.sid.CSid.{CSid}
use Rattle.mysql_packets_c.specs.declared.sid_text.SidText.{SidText}
use Rattle.mysql_packets_c.specs.Sid.{PutsParts, PutsSid, RefusesText, SidInto, interval_of, intervals_of, tag_held}
use Rattle.mysql_packets_c.specs.SidText.{Found, Tells}

from_some : {A : Type 0} (r : Result A InvalidSid) (x : A) → Some x ≡ result_ok r → r ≡ Ok x
from_some (Ok y) x h = cc
from_some (Err e) x h = absurd cc

from_none : {A : Type 0} (r : Result A InvalidSid) → None ≡ result_ok r → (e : InvalidSid) × (r ≡ Err e)
from_none (Ok y) h = absurd cc
from_none (Err e) h = (e, refl)

same-some : {A : Type 0} (x y : A) → ◌≡◌ {A = Option A} (Some x) (Some y) → x ≡ y
same-some x y h = cc

-- what was read before, in the places if there are enough
pub record StandsBefore (n : ℕ) (places : List CInterval) (left total : Result (List GnoInterval) InvalidSid) : Type 0 where
  pub front : List GnoInterval
  pub read : with_front front left ≡ total
  pub count : n ≡ length front
  pub placed : n ≤ length places → intervals_of (take n places) ≡ front

pub none-before : (places : List CInterval) (total : Result (List GnoInterval) InvalidSid) → StandsBefore 0 places total total
none-before places total = record { front = []; read = loops.none-before total; count = refl; placed = λ h. refl }

one-more : (front : List GnoInterval) (i : GnoInterval) (n : ℕ) → n ≡ length front → n + 1 ≡ length (front ++ i ∷ [])
one-more front i n e = omega (arith, e, length-append front (i ∷ []))

one-placed : (front : List GnoInterval) (places : List CInterval) (n : ℕ) (x : CInterval) (i : GnoInterval) → n < length places → interval_of x ≡ i → intervals_of (take n places) ≡ front
    → intervals_of (take (n + 1) (slice_set places n x)) ≡ front ++ i ∷ []
one-placed front places n x i fits is so_far =
    ap intervals_of (take_more_set places n x fits) ∙ map-append interval_of (take n places) (x ∷ [])
    ∙ ap (λ (l : List GnoInterval). l ++ interval_of x ∷ []) so_far ∙ ap (λ (z : GnoInterval). front ++ z ∷ []) is

module _ (n : ℕ) (places : List CInterval) (left more : List (Result GnoInterval InvalidSid)) (read : Result GnoInterval InvalidSid) (total : Result (List GnoInterval) InvalidSid) (before : StandsBefore n places (all_read left) total) (split : left ≡ read ∷ more) where
  pub next-placed : (x : CInterval) (i : GnoInterval) → Some i ≡ result_ok read → n < length places → interval_of x ≡ i → StandsBefore (n + 1) (slice_set places n x) (all_read more) total
  next-placed x i h fits is =
      record {
        front = before.front ++ i ∷ [];
        read = next-interval before.front i left more total before.read (split ∙ ap (λ (r : Result GnoInterval InvalidSid). r ∷ more) (from_some read i h));
        count = one-more before.front i n before.count;
        placed = λ le. one-placed before.front places n x i fits is (before.placed (omega (arith, fits)));
      }

  pub next-past : (i : GnoInterval) → Some i ≡ result_ok read → length places ≤ n → StandsBefore (n + 1) places (all_read more) total
  next-past i h past =
      record {
        front = before.front ++ i ∷ [];
        read = next-interval before.front i left more total before.read (split ∙ ap (λ (r : Result GnoInterval InvalidSid). r ∷ more) (from_some read i h));
        count = one-more before.front i n before.count;
        placed = λ le. absurd (omega (arith, past, le));
      }

  refused : None ≡ result_ok read → (e : InvalidSid) × (total ≡ Err e)
  refused h =
      let e = from_none read h in
      (e.0, no-interval before.front e.0 left more total before.read (split ∙ ap (λ (r : Result GnoInterval InvalidSid). r ∷ more) e.1))

  pub none-read : None ≡ result_ok read → None ≡ option_map length (result_ok total)
  none-read h = let e = refused h in rw e.1 refl

  pub none-placed : (Q : List GnoInterval → Type 0) → None ≡ result_ok read → IfOk total Q
  none-placed Q h = let e = refused h in subst (λ (r : Result (List GnoInterval) InvalidSid). IfOk r Q) (sym e.1) tt

module _ (n : ℕ) (places : List CInterval) (left : List (Result GnoInterval InvalidSid)) (total : Result (List GnoInterval) InvalidSid) (before : StandsBefore n places (all_read left) total) (none : left ≡ []) where
  whole : total ≡ Ok before.front
  whole = all-intervals before.front left total before.read none

  pub all-read : Some n ≡ option_map length (result_ok total)
  all-read = rw whole (ap Some before.count)

  pub all-placed : IfOk total (λ list. length list ≤ length places → intervals_of (take (length list) places) ≡ list)
  all-placed =
      let stands : length before.front ≤ length places → intervals_of (take (length before.front) places) ≡ before.front = λ h. rw (sym before.count) (before.placed (rw before.count h)) in
      subst (λ (r : Result (List GnoInterval) InvalidSid). IfOk r (λ list. length list ≤ length places → intervals_of (take (length list) places) ≡ list)) (sym whole) stands

pub ruleset sids_read = (none-before, next-placed, next-past, none-read, none-placed, all-read, all-placed)

-- ---- the sid of its parts

parts-hold : (parts : SidParts) (n : ℕ) (read : Result (List GnoInterval) InvalidSid) → all_read parts.intervals ≡ read → Some n ≡ option_map length (result_ok read)
    → Found (Some (record { parts = parts; count = n })) (sid_with parts.uuid parts.tag read)
parts-hold parts n (Ok list) is h = record { uuid = refl; tag = refl; intervals = is; count = same-some n (length list) h }
parts-hold parts n (Err e) is h = absurd cc

none-hold : (parts : SidParts) (read : Result (List GnoInterval) InvalidSid) → None ≡ option_map length (result_ok read) → Found None (sid_with parts.uuid parts.tag read)
none-hold parts (Ok list) h = absurd cc
none-hold parts (Err e) h = tt

module _ (read : Result Sid InvalidSid) (found : Result SidParts InvalidSid) (is : read ≡ sid_of found) where
  pub parts-tell : (parts : SidParts) (n : ℕ) → Some parts ≡ result_ok found → Some n ≡ option_map length (result_ok (all_read parts.intervals)) → Found (Some (record { parts = parts; count = n })) read
  parts-tell parts n some h =
      let same : read ≡ sid_with parts.uuid parts.tag (all_read parts.intervals) = is ∙ ap sid_of (from_some found parts some) in
      rw same (parts-hold parts n (all_read parts.intervals) refl h)

  pub parts-refused : (parts : SidParts) → Some parts ≡ result_ok found → None ≡ option_map length (result_ok (all_read parts.intervals)) → Found None read
  parts-refused parts some h =
      let same : read ≡ sid_with parts.uuid parts.tag (all_read parts.intervals) = is ∙ ap sid_of (from_some found parts some) in
      rw same (none-hold parts (all_read parts.intervals) h)

  pub no-parts : None ≡ result_ok found → Found None read
  no-parts none = let e = from_none found none in let same : read ≡ Err e.0 = is ∙ ap sid_of e.1 in rw same tt

pub ruleset sids_in = (parts-tell, parts-refused, no-parts)

-- ---- the result of the call

pub sid-found : (read : Result Sid InvalidSid) (places answer : ℕ) (old new : CSid) (needed : ℕ) (found : SidText) → Found (Some found) read
    → ((s : Sid) → Tells found s → PutsSid s places answer old new needed) → SidInto read places answer old new needed
sid-found (Ok s) places answer old new needed found h puts = puts s h
sid-found (Err e) places answer old new needed found h puts = absurd h

same-tag : (s t : CSid) → s.tag ≡ t.tag → s.tag_length ≡ t.tag_length → tag_held s ≡ tag_held t
unfolding tag_held
same-tag s t tag len = rw (tag, len) refl

-- the struct has the intervals if they are in their places
pub sid-put : (s : Sid) (answer : ℕ) (old mid new : CSid) (before after : List CInterval) (needed : ℕ) → PutsParts s answer old mid before after needed → answer ≡ 0
    → new.uuid ≡ mid.uuid → new.tag ≡ mid.tag → new.tag_length ≡ mid.tag_length → new.intervals.now ≡ take needed after → PutsSid s (length before) answer old new needed
sid-put s answer old mid new before after needed puts done uuid tag len stands = record {
  fits = λ h. let f = puts.fits h in (f.0, record { uuid = uuid ∙ f.1; tag = same-tag new mid tag len ∙ f.2; intervals = ap intervals_of stands ∙ f.3 });
  small = λ h. let five = (puts.small h).0 in absurd (omega (arith, five, done));
  count = puts.count;
}

pub sid-small : (s : Sid) (answer : ℕ) (old new : CSid) (before after : List CInterval) (needed : ℕ) → PutsParts s answer old new before after needed → answer ≢ 0
    → PutsSid s (length before) answer old new needed
sid-small s answer old new before after needed puts some = record {
  fits = λ h. absurd (some (puts.fits h).0);
  small = puts.small;
  count = puts.count;
}

pub none-found : (read : Result Sid InvalidSid) (places answer : ℕ) (old new : CSid) (needed : ℕ) → Found None read → RefusesText answer old new needed → SidInto read places answer old new needed
none-found (Ok s) places answer old new needed h refuses = absurd h
none-found (Err e) places answer old new needed h refuses = refuses

-- the intervals that a text spells, if they are known
pub places-of : (read : Result (List GnoInterval) InvalidSid) (list : List GnoInterval) (n : ℕ) (old new : List CInterval) → read ≡ Ok list → n ≡ length list → n ≤ length old
    → IfOk read (λ all. length all ≤ length old → intervals_of (take (length all) new) ≡ all) → intervals_of (take n new) ≡ list
places-of read list n old new is count fits h = let stands : length list ≤ length old → intervals_of (take (length list) new) ≡ list = rw is at h in rw count (stands (rw count at fits))

pub ruleset sids_found = (sid-found, sid-put, sid-small, none-found, places-of)
