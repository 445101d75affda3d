-- What the program prints for a recording, piece by piece.
use Rattle.std.proofs.Common.{◌≡◌, ◌⊎◌, inl, inr, ℕ, Bool, true, false, List, [], ◌∷◌, ◌++◌, Option, Some, None, Result, Ok, Err, OnOk, MatchResult, refl, sym, ap, subst, ◌∙◌, append_assoc, append-nil}
use Rattle.std.specs.Io.KnownBytes.{Appends}
use Rattle.mysql_conversation.specs.Pipelined.{Numbered}
use Rattle.mysql_conversation.specs.declared.packet_kind.Side.{Side}
use Rattle.mysql_conversation.specs.declared.packet_kind_tag.PacketKindTag.{PacketKindTag}
use Rattle.mysql_conversation.specs.declared.pipeline.SessionError.{SessionError}
use Rattle.mysql_show.specs.Appended.{Stays}
use Rattle.mysql_show.specs.Fields.{Said}
use Rattle.mysql_recorder.specs.declared.entry.Layout.{Layout}
use Rattle.mysql_recorder.specs.declared.entry.Layout.TheVariants as layouts
use Rattle.mysql_recorder.specs.Answers.{BeginsMade, Ends, EndsWith, error_line, error_name, FailsIn, IsAnswer, IsErrorWritten, IsLineEnd, IsMade, lost_status, LostIn, RefusedIn, SaysError, SaysName, Takes}
use Rattle.mysql_recorder.specs.Losses.{IsAtFeed, IsLost, Loses, LosesIn}
use Rattle.mysql_show.specs.Output.{Answer, IsWritten}
use Rattle.mysql_recorder.specs.Recorded as recorded
use Rattle.mysql_recorder.specs.Recorded.{Recorded}
use Rattle.mysql_recorder.specs.Refusals.{IfRefused}
use Rattle.mysql_recorder.specs.Refused.{ShowsRefused}
use Rattle.mysql_recorder.specs.Shown as shown
use Rattle.mysql_recorder.specs.Entries.{AppendsEntry, Entry, entry_line}
use Rattle.mysql_recorder.specs.Shown.{entry_of, Item, placed, Writes}
use Rattle.mysql_recorder.specs.Stops.{StopsAfter, StopsIn}
use Rattle.mysql_recorder.specs.declared.error.RecordingError.{RecordingError}
use Rattle.mysql_recorder.specs.declared.error.RecordingError.TheVariants as error
use Rattle.mysql_recorder.specs.declared.recording.Recording.{Recording}
use Rattle.mysql_recorder.proofs.Frames.{writes_then}
use Rattle.mysql_recorder.proofs.Losses.{feed_more, is_lost_where}
use Rattle.mysql_show.proofs.Outputs.{cut_after, cut_longer, written_after}
use Rattle.mysql_recorder.proofs.Seen.{recorded_shown}
use Rattle.mysql_recorder.proofs.Stays.{stays_same, stays_then}

-- ---- the same after an earlier text

is_after : (w a b more : List ℕ) → b ≡ a ++ more → w ++ b ≡ (w ++ a) ++ more
is_after w a b more e = ap (λ (l : List ℕ). w ++ l) e ∙ sym (append_assoc w a more)

stays_after : (w a b : List ℕ) → Stays a b → Stays (w ++ a) (w ++ b)
stays_after w a b h = (h.0, is_after w a b h.0 h.1)

entry_after : (w : List ℕ) (layout : Layout) (e : Entry) (fields : List Said) (a b : List ℕ) → AppendsEntry layout e fields a b → AppendsEntry layout e fields (w ++ a) (w ++ b)
entry_after w layouts.Lines e fields a b h = (h.0, h.1, is_after w (a ++ entry_line e) b h.0 h.2 ∙ ap (λ (l : List ℕ). l ++ h.0) (sym (append_assoc w a (entry_line e))))
entry_after w layouts.Json e fields a b h = (h.0, h.1, is_after w a b _ h.2)

appends_after : (w : List ℕ) (layout : Layout) (before : List Numbered) (x : Item) (a b : List ℕ) → shown.Appends layout before x a b → shown.Appends layout before x (w ++ a) (w ++ b)
appends_after w layout before x a b h = (h.0, h.1, λ none. is_after w a b _ (h.2 none), entry_after w layout (entry_of x) h.0 a b h.3)

writes_after : (w : List ℕ) (layout : Layout) (before xs : List Item) (a b : List ℕ) → Writes layout before xs a b → Writes layout before xs (w ++ a) (w ++ b)
writes_after w layout before [] a b h = ap (λ (l : List ℕ). w ++ l) h
writes_after w layout before (x ∷ xs) a b h =
    (w ++ h.0, appends_after w layout (placed before) x a h.0 h.1, writes_after w layout (before ++ x ∷ []) xs h.0 b h.2)

refused_after : (w : List ℕ) (all : List PacketKindTag) (layout : Layout) (side : Side) (sequence : ℕ) (payload : List ℕ) (items : List Numbered) (why : SessionError) (a b : List ℕ)
    → ShowsRefused all layout side sequence payload items why a b → ShowsRefused all layout side sequence payload items why (w ++ a) (w ++ b)
refused_after w all layout side sequence payload items why a b h = (h.0, h.1, h.2, is_after w a b _ h.3, h.4, h.5, h.6)

stops_in_after : (w : List ℕ) (all : List PacketKindTag) (layout : Layout) (side : Side) (bytes : List ℕ) (items : List Item) (why : SessionError) (a b : List ℕ)
    → StopsIn all layout side bytes items why a b → StopsIn all layout side bytes items why (w ++ a) (w ++ b)
stops_in_after w all layout side bytes items why a b h =
    (h.0, h.1, h.2, h.3, h.4, h.5, w ++ h.6, h.7, h.8, h.9, writes_after w layout items h.0 a h.6 h.10, h.11, refused_after w all layout side h.1 h.2 _ why h.6 b h.12)

stops_after_after : (w : List ℕ) (all : List PacketKindTag) (layout : Layout) (text : List ℕ) (items : List Item) (why : SessionError) (a b : List ℕ)
    → StopsAfter all layout text items why a b → StopsAfter all layout text items why (w ++ a) (w ++ b)
stops_after_after w all layout text items why a b h = record { side = h.side; bytes = h.bytes; shown = h.shown; stops = stops_in_after w all layout h.side _ items why a b h.stops }

loses_in_after : (w : List ℕ) (all : List PacketKindTag) (layout : Layout) (limit : ℕ) (side : Side) (bytes : List ℕ) (items : List Item) (a b : List ℕ)
    → LosesIn all layout limit side bytes items a b → LosesIn all layout limit side bytes items (w ++ a) (w ++ b)
loses_in_after w all layout limit side bytes items a b (inl h) = inl (h.0, h.1, h.2, h.3, writes_after w layout items h.0 a b h.4, h.5, h.6)
loses_in_after w all layout limit side bytes items a b (inr h) = inr (h.0, stops_in_after w all layout side bytes items h.0 a b h.1)

lost_after : (w : List ℕ) (all : List PacketKindTag) (layout : Layout) (limit : ℕ) (ends : Type 0) (text : List ℕ) (items : List Item) (a b : List ℕ)
    → IsLost all layout limit ends text items a b → IsLost all layout limit ends text items (w ++ a) (w ++ b)
lost_after w all layout limit ends text items a b (inl h) = inl (record { side = h.side; bytes = h.bytes; shown = h.shown; loses = loses_in_after w all layout limit h.side _ items a b h.loses })
lost_after w all layout limit ends text items a b (inr h) = inr (h.0, h.1, ap (λ (l : List ℕ). w ++ l) h.2)

-- these entries, followed by those
writes_more : (layout : Layout) (xs ys : List Item) (w t : List ℕ) → Writes layout [] xs [] w → Writes layout xs ys [] t → Writes layout [] (xs ++ ys) [] (w ++ t)
writes_more layout xs ys w t h g = writes_then layout [] xs ys [] w (w ++ t) h (subst (λ l. Writes layout xs ys l (w ++ t)) (append-nil w) (writes_after w layout xs ys [] t g))

-- ---- in the middle of an input

-- what is printed for this input is there, and the recording is in the state after it
abbrev pub IsAmid : List PacketKindTag → Layout → ℕ → Recording → List ℕ → List ℕ → Type 0
IsAmid all layout limit r input text =
    ((items : List Item) × Recorded r input items × Writes layout [] items [] text) ⊎ ((recorded.has_lost r ≡ true) × LostIn all layout limit IsAtFeed input text)

pub amid_made : (all : List PacketKindTag) (layout : Layout) (limit : ℕ) (r : Recording) (x w : List ℕ) → IsAmid all layout limit r x w → IsMade all layout limit x w
amid_made all layout limit r x w (inl h) = let seen = recorded_shown r x h.0 h.1 in inl (seen.0, (h.0, seen.1, h.2))
amid_made all layout limit r x w (inr h) = inr h.1

lost_more : (all : List PacketKindTag) (layout : Layout) (limit : ℕ) (x p w t : List ℕ) → LostIn all layout limit IsAtFeed x w → LostIn all layout limit IsAtFeed (x ++ p) (w ++ t)
lost_more all layout limit x p w t l = (
  l.0,
  l.1 ++ p,
  l.2,
  l.3,
  l.4,
  ap (λ (b : List ℕ). b ++ p) l.5 ∙ append_assoc l.0 l.1 p,
  l.6,
  is_lost_where all layout limit (IsAtFeed l.1) (IsAtFeed (l.1 ++ p)) l.0 l.2 l.3 l.4 (feed_more l.1 p) l.7,
  stays_then l.4 w (w ++ t) l.8 (t, refl),
)

lost_ends : (all : List PacketKindTag) (layout : Layout) (limit : ℕ) (x w t : List ℕ) → LostIn all layout limit IsAtFeed x w → LostIn all layout limit IsLineEnd x (w ++ t)
lost_ends all layout limit x w t l =
    (l.0, l.1, l.2, l.3, l.4, l.5, l.6, is_lost_where all layout limit (IsAtFeed l.1) (IsLineEnd l.1) l.0 l.2 l.3 l.4 (λ f. inl f) l.7, stays_then l.4 w (w ++ t) l.8 (t, refl))

-- something is lost in a piece; the entries up to there are followed by those of its rest
lost_here : (all : List PacketKindTag) (old new : Recording) (x p w t : List ℕ) (items : List Item)
    → Recorded old x items → Writes (recorded.layout old) [] items [] w → Loses all p old new [] t → recorded.has_lost new ≡ true
    → (mid : List ℕ) × Stays mid t × ((text : List ℕ) → Stays mid text → LostIn all (recorded.layout old) (recorded.longest old) IsAtFeed (x ++ p) (w ++ text))
lost_here all old new x p w t items h writes loses lost =
    let l = loses lost x items h in (
      l.4,
      l.8,
      λ text stays. (
        x ++ l.0,
        l.1,
        items ++ l.2,
        w ++ l.3,
        w ++ l.4,
        is_after x l.0 p l.1 l.5,
        writes_more (recorded.layout old) items l.2 w l.3 writes l.6,
        lost_after w all (recorded.layout old) (recorded.longest old) (IsAtFeed l.1) (x ++ l.0) (items ++ l.2) l.3 l.4 l.7,
        stays_after w l.4 text stays,
      ),
    )

amid_here : (all : List PacketKindTag) (old new : Recording) (x p w t : List ℕ) → Takes (Ok tt) all p old new t
    → IsAmid all (recorded.layout old) (recorded.longest old) old x w → IsAmid all (recorded.layout old) (recorded.longest old) new (x ++ p) (w ++ t)
amid_here all old new x p w t takes (inl h) =
    elim (takes.goes x h.0 h.1) as (λ _. IsAmid all (recorded.layout old) (recorded.longest old) new (x ++ p) (w ++ t)) [
      | inl e ↦ (let l = lost_here all old new x p w t h.0 h.1 h.2 takes.loses e in inr (e, l.2 t l.1))
      | inr f ↦ inl (h.0 ++ f.0, f.1, writes_more (recorded.layout old) h.0 f.0 w t h.2 f.2)
    ]
amid_here all old new x p w t takes (inr h) = inr (takes.lost h.0, lost_more all (recorded.layout old) (recorded.longest old) x p w t h.1)

pub amid_more : (all : List PacketKindTag) (layout : Layout) (limit : ℕ) (old new : Recording) (x p w t : List ℕ) → recorded.layout old ≡ layout → recorded.longest old ≡ limit
    → Takes (Ok tt) all p old new t → IsAmid all layout limit old x w → IsAmid all layout limit new (x ++ p) (w ++ t)
amid_more all layout limit old new x p w t same long takes =
    subst (λ s. IsAmid all s limit old x w → IsAmid all s limit new (x ++ p) (w ++ t)) same
    (subst (λ n. IsAmid all (recorded.layout old) n old x w → IsAmid all (recorded.layout old) n new (x ++ p) (w ++ t)) long (amid_here all old new x p w t takes))

pub amid_none : (all : List PacketKindTag) (layout : Layout) (limit : ℕ) (r : Recording) → Recorded r [] [] → IsAmid all layout limit r [] []
amid_none all layout limit r h = inl ([], h, refl)

-- ---- answers

pub ends_plain : (sums : Bool) (text : List ℕ) (status : ℕ) → EndsWith sums text status (record { text = text; status = status })
ends_plain true text status = inl ([], sym (append-nil text), refl)
ends_plain false text status = (refl, refl)

pub ends_after : (sums : Bool) (w text : List ℕ) (status : ℕ) (answer : Answer) → EndsWith sums text status answer
    → EndsWith sums (w ++ text) status (record { text = w ++ answer.text; status = answer.status })
ends_after true w text status answer (inl h) = inl (h.0, is_after w text answer.text h.0 h.1, h.2)
ends_after true w text status answer (inr h) = inr (is_after w text answer.text _ h.0, h.1)
ends_after false w text status answer h = (ap (λ (l : List ℕ). w ++ l) h.0, h.1)

whatever : (e : RecordingError) (P : Type 0) → P → IfRefused e (λ why. P)
whatever (error.Refused why) P h = h
whatever _ _ h = tt

line_named : (layout : Layout) (name : Option (List ℕ)) → (line : List ℕ) × SaysName layout name line
line_named layout (Some name) = (error_line layout name, inl refl)
line_named layout None = ([], refl)

line_for : (layout : Layout) (e : RecordingError) → (line : List ℕ) × SaysError layout e line
line_for layout e = line_named layout (error_name e)

pub cut_off : (all : List PacketKindTag) (layout : Layout) (limit : ℕ) (sums : Bool) (at_end : Type 0) (r : Recording) (x w : List ℕ) → IsAmid all layout limit r x w
    → IsAnswer all layout limit sums at_end x (record { text = w; status = 3 })
cut_off all layout limit sums at_end r x w h = inr (inr (inr (inr (record { made = amid_made all layout limit r x w h; status = refl }))))

-- what is printed for a front of it
begins_made : (all : List PacketKindTag) (layout : Layout) (limit : ℕ) (r : Recording) (x p w t : List ℕ) → IsAmid all layout limit r x w → BeginsMade all layout limit (x ++ p) (w ++ t)
begins_made all layout limit r x p w t h = (x, p, w, refl, amid_made all layout limit r x w h, (t, refl))

-- for another reason
for_another : (all : List PacketKindTag) (layout : Layout) (limit : ℕ) (sums : Bool) (at_end : Type 0) (r : Recording) (x p w t line : List ℕ) (e : RecordingError) (answer : Answer)
    → IsAmid all layout limit r x w → IfRefused e (λ why. (m : List ℕ) × LostIn all layout limit IsAtFeed (x ++ p) m) → SaysError layout e line → EndsWith sums ((w ++ t) ++ line) 1 answer
    → IsAnswer all layout limit sums at_end (x ++ p) answer
for_another all layout limit sums at_end r x p w t line e answer h lost says ends =
    inr (inr (inr (inl (record {
      why = e;
      shown = w ++ t;
      line = line;
      begins = begins_made all layout limit r x p w t h;
      lost = lost;
      says = says;
      ends = ends;
    }))))

-- after something is lost
after_lost : (all : List PacketKindTag) (layout : Layout) (limit : ℕ) (sums : Bool) (at_end : Type 0) (r : Recording) (x p w t text line : List ℕ) (e : RecordingError) (answer : Answer)
    → IsAmid all layout limit r x w → LostIn all layout limit IsAtFeed (x ++ p) text → SaysError layout e line → EndsWith sums ((w ++ t) ++ line) 1 answer
    → IsAnswer all layout limit sums at_end (x ++ p) answer
after_lost all layout limit sums at_end r x p w t text line e answer h l says ends =
    for_another all layout limit sums at_end r x p w t line e answer h (whatever e ((m : List ℕ) × LostIn all layout limit IsAtFeed (x ++ p) m) (text, l)) says ends

-- a packet is unexpected, or there is another reason
stopped : (all : List PacketKindTag) (layout : Layout) (limit : ℕ) (sums : Bool) (at_end : Type 0) (r : Recording) (x p w t line : List ℕ) (e : RecordingError) (answer : Answer)
    → IsAmid all layout limit r x w → IfRefused e (λ why. RefusedIn all layout why (x ++ p) (w ++ t)) → SaysError layout e line → EndsWith sums ((w ++ t) ++ line) 1 answer
    → IsAnswer all layout limit sums at_end (x ++ p) answer
stopped all layout limit sums at_end r x p w t line (error.Refused why) answer h stops says ends =
    inr (inr (inl (record {
      why = why;
      shown = w ++ t;
      stops = stops;
      ends = subst (λ l. EndsWith sums l 1 answer) (ap (λ (l : List ℕ). (w ++ t) ++ l) says ∙ append-nil (w ++ t)) ends;
    })))
stopped all layout limit sums at_end r x p w t line e answer h stops says ends = for_another all layout limit sums at_end r x p w t line e answer h tt says ends

-- what stops in the middle of a piece
piece_refused : (all : List PacketKindTag) (layout : Layout) (e : RecordingError) (x p w t : List ℕ) (items : List Item) → Writes layout [] items [] w
    → IfRefused e (λ why. (front : List ℕ) × (back : List ℕ) × (here : List Item) × (mid : List ℕ) × (p ≡ front ++ back)
    × Writes layout items here [] mid × StopsAfter all layout (x ++ front) (items ++ here) why mid t)
    → IfRefused e (λ why. RefusedIn all layout why (x ++ p) (w ++ t))
piece_refused all layout (error.Refused why) x p w t items writes s =
    (x ++ s.0, s.1, items ++ s.2, w ++ s.3, is_after x s.0 p s.1 s.4, writes_more layout items s.2 w s.3 writes s.5, stops_after_after w all layout (x ++ s.0) (items ++ s.2) why s.3 t s.6)
piece_refused all layout _ x p w t items writes s = tt

end_refused : (all : List PacketKindTag) (layout : Layout) (e : RecordingError) (x w t : List ℕ) (items : List Item) → Writes layout [] items [] w
    → IfRefused e (λ why. StopsAfter all layout x items why [] t) → IfRefused e (λ why. RefusedIn all layout why (x ++ []) (w ++ t))
end_refused all layout (error.Refused why) x w t items writes s =
    (x, [], items, w, refl, writes, subst (λ l. StopsAfter all layout x items why l (w ++ t)) (append-nil w) (stops_after_after w all layout x items why [] t s))
end_refused all layout _ x w t items writes s = tt

piece_stops : (all : List PacketKindTag) (sums : Bool) (at_end : Type 0) (old new : Recording) (x p w t line : List ℕ) (e : RecordingError) (answer : Answer) → Takes (Err e) all p old new t
    → IsAmid all (recorded.layout old) (recorded.longest old) old x w → SaysError (recorded.layout old) e line → EndsWith sums ((w ++ t) ++ line) 1 answer
    → IsAnswer all (recorded.layout old) (recorded.longest old) sums at_end (x ++ p) answer
piece_stops all sums at_end old new x p w t line e answer takes (inl h) says ends =
    let amid : IsAmid all (recorded.layout old) (recorded.longest old) old x w = inl h in
    elim (takes.refused x h.0 h.1) as (λ _. IsAnswer all (recorded.layout old) (recorded.longest old) sums at_end (x ++ p) answer) [
      | inl lost_now ↦ (let l = lost_here all old new x p w t h.0 h.1 h.2 takes.loses lost_now in
          after_lost all (recorded.layout old) (recorded.longest old) sums at_end old x p w t (w ++ l.0) line e answer amid (l.2 l.0 (stays_same l.0)) says ends)
      | inr s ↦ stopped all (recorded.layout old) (recorded.longest old) sums at_end old x p w t line e answer amid (piece_refused all (recorded.layout old) e x p w t h.0 h.2 s) says ends
    ]
piece_stops all sums at_end old new x p w t line e answer takes (inr h) says ends =
    after_lost all (recorded.layout old) (recorded.longest old) sums at_end old x p w t (w ++ t) line e answer (inr h) (lost_more all (recorded.layout old) (recorded.longest old) x p w t h.1) says ends

end_stops : (all : List PacketKindTag) (sums : Bool) (at_end : Type 0) (old new : Recording) (x w t line : List ℕ) (e : RecordingError) (answer : Answer) → Ends (Err e) all old new t
    → IsAmid all (recorded.layout old) (recorded.longest old) old x w → SaysError (recorded.layout old) e line → EndsWith sums ((w ++ t) ++ line) 1 answer
    → IsAnswer all (recorded.layout old) (recorded.longest old) sums at_end (x ++ []) answer
end_stops all sums at_end old new x w t line e answer takes (inl h) says ends =
    stopped all (recorded.layout old) (recorded.longest old) sums at_end old x [] w t line e answer (inl h) (end_refused all (recorded.layout old) e x w t h.0 h.2 (takes.refused x h.0 h.1)) says ends
end_stops all sums at_end old new x w t line e answer takes (inr h) says ends =
    after_lost all (recorded.layout old) (recorded.longest old) sums at_end old x [] w t (w ++ t) line e answer (inr h) (lost_more all (recorded.layout old) (recorded.longest old) x [] w t h.1) says ends

-- the input is at its end
no_more : (all : List PacketKindTag) (old new : Recording) (x w t : List ℕ) (items : List Item) → Recorded old x items → Writes (recorded.layout old) [] items [] w
    → Ends (Ok tt) all old new t → recorded.has_lost new ≡ true → LostIn all (recorded.layout old) (recorded.longest old) IsLineEnd x (w ++ t)
no_more all old new x w t items h writes says lost_now =
    let l = says.loses lost_now x items h in (
      x,
      [],
      items,
      w,
      w ++ l.0,
      sym (append-nil x),
      writes,
      subst (λ s. IsLost all (recorded.layout old) (recorded.longest old) (IsLineEnd []) x items s (w ++ l.0)) (append-nil w)
          (lost_after w all (recorded.layout old) (recorded.longest old) (IsLineEnd []) x items [] l.0
          (is_lost_where all (recorded.layout old) (recorded.longest old) (Unit {0}) (IsLineEnd []) x items [] l.0 (λ u. inr refl) l.1)),
      stays_after w l.0 t l.2,
    )

finished : (all : List PacketKindTag) (sums has_lost : Bool) (at_end : Type 0) (old new : Recording) (x w t : List ℕ) (answer : Answer) → Ends (Ok tt) all old new t → recorded.has_lost new ≡ has_lost → at_end
    → IsAmid all (recorded.layout old) (recorded.longest old) old x w → EndsWith sums (w ++ t) (lost_status has_lost) answer
    → IsAnswer all (recorded.layout old) (recorded.longest old) sums at_end x answer
finished all sums true at_end old new x w t answer says is here (inl h) ends =
    inr (inl (here, record { shown = w ++ t; lost = no_more all old new x w t h.0 h.1 h.2 says is; ends = ends }))
finished all sums false at_end old new x w t answer says is here (inl h) ends =
    elim (says.finishes x h.0 h.1) as (λ _. IsAnswer all (recorded.layout old) (recorded.longest old) sums at_end x answer) [
      | inl lost_now ↦ absurd (let no : true ≡ false = sym lost_now ∙ is in cc)
      | inr f ↦ inl (here, record { shown = w ++ t; shows = (h.0 ++ f.0, f.1.shown, writes_more (recorded.layout old) h.0 f.0 w t h.2 f.2); ends = ends })
    ]
finished all sums true at_end old new x w t answer says is here (inr h) ends =
    inr (inl (here, record { shown = w ++ t; lost = lost_ends all (recorded.layout old) (recorded.longest old) x w t h.1; ends = ends }))
finished all sums false at_end old new x w t answer says is here (inr h) ends = absurd (let no : true ≡ false = sym (says.lost h.0) ∙ is in cc)

-- ---- what is written

-- A written answer, which is that of this input if it ends in the middle of it.
pub record IsGiven (all : List PacketKindTag) (layout : Layout) (limit : ℕ) (sums : Bool) (at_end : Type 0) (r : Recording) (x w input : List ℕ) (old new : Option (List ℕ)) (status : ℕ) : Type 0 where
  pub answer : Answer
  pub answers : IsAmid all layout limit r x w → IsAnswer all layout limit sums at_end input answer
  pub written : IsWritten answer old new status

error_given : (all : List PacketKindTag) (sums : Bool) (at_end : Type 0) (r : Recording) (x w t input : List ℕ) (e : RecordingError) (a b c : Option (List ℕ)) (status : ℕ) → Appends a b w
    → ((line : List ℕ) (answer : Answer) → IsAmid all (recorded.layout r) (recorded.longest r) r x w → SaysError (recorded.layout r) e line → EndsWith sums ((w ++ t) ++ line) 1 answer
    → IsAnswer all (recorded.layout r) (recorded.longest r) sums at_end input answer)
    → FailsIn t b c status ⊎ IsErrorWritten (recorded.layout r) sums e t b c status
    → IsGiven all (recorded.layout r) (recorded.longest r) sums at_end r x w input a c status
error_given all sums at_end r x w t input e a b c status first stops (inl fails) =
    let line = line_for (recorded.layout r) e in
    let answer : Answer = record { text = (w ++ t) ++ line.0; status = 1 } in
    record {
      answer = answer;
      answers = λ h. stops line.0 answer h line.1 (ends_plain sums ((w ++ t) ++ line.0) 1);
      written = inr ((fails.0.0 ++ line.0, cut_longer (w ++ t) fails.0.0 line.0 a c (cut_after w t fails.0.0 a b c first fails.0.1)), fails.1);
    }
error_given all sums at_end r x w t input e a b c status first stops (inr h) =
    record {
      answer = record { text = w ++ h.1.text; status = h.1.status };
      answers = λ amid. stops h.0 (record { text = w ++ h.1.text; status = h.1.status }) amid h.2
          (subst (λ l. EndsWith sums l 1 (record { text = w ++ h.1.text; status = h.1.status })) (sym (append_assoc w t h.0)) (ends_after sums w (t ++ h.0) 1 h.1 h.3));
      written = written_after w h.1 a b c status first h.4;
    }

pub piece_given : (r : Result (Unit {0}) RecordingError) (all : List PacketKindTag) (sums : Bool) (at_end : Type 0) (old new : Recording) (x p w t : List ℕ) (a b c : Option (List ℕ)) (status : ℕ) → Appends a b w
    → Takes r all p old new t → FailsIn t b c status ⊎ MatchResult r (λ _. ⊥) (λ e. IsErrorWritten (recorded.layout old) sums e t b c status)
    → IsGiven all (recorded.layout old) (recorded.longest old) sums at_end old x w (x ++ p) a c status
piece_given (Ok u) all sums at_end old new x p w t a b c status first takes (inl fails) = record {
  answer = record { text = w ++ t; status = 3 };
  answers = λ h. cut_off all (recorded.layout old) (recorded.longest old) sums at_end new (x ++ p) (w ++ t) (amid_here all old new x p w t takes h);
  written = inr ((fails.0.0, cut_after w t fails.0.0 a b c first fails.0.1), fails.1);
}
piece_given (Ok u) all sums at_end old new x p w t a b c status first takes (inr never) = absurd never
piece_given (Err e) all sums at_end old new x p w t a b c status first takes ends =
    error_given all sums at_end old x w t (x ++ p) e a b c status first (λ line answer h says with. piece_stops all sums at_end old new x p w t line e answer takes h says with) ends

pub end_given : (r : Result (Unit {0}) RecordingError) (all : List PacketKindTag) (sums : Bool) (at_end : Type 0) (old new : Recording) (x w t : List ℕ) (a b c : Option (List ℕ)) (status : ℕ) → Appends a b w
    → Ends r all old new t → at_end
    → FailsIn t b c status ⊎ MatchResult r
    (λ _. (answer : Answer) × EndsWith sums t (lost_status (recorded.has_lost new)) answer × IsWritten answer b c status)
    (λ e. IsErrorWritten (recorded.layout old) sums e t b c status)
    → IsGiven all (recorded.layout old) (recorded.longest old) sums at_end old x w x a c status
end_given (Ok u) all sums at_end old new x w t a b c status first says here (inl fails) = record {
  answer = record { text = w ++ t; status = lost_status (recorded.has_lost new) };
  answers = λ h. finished all sums (recorded.has_lost new) at_end old new x w t _ says refl here h (ends_plain sums (w ++ t) (lost_status (recorded.has_lost new)));
  written = inr ((fails.0.0, cut_after w t fails.0.0 a b c first fails.0.1), fails.1);
}
end_given (Ok u) all sums at_end old new x w t a b c status first says here (inr h) = record {
  answer = record { text = w ++ h.0.text; status = h.0.status };
  answers = λ amid. finished all sums (recorded.has_lost new) at_end old new x w t _ says refl here amid (ends_after sums w t (lost_status (recorded.has_lost new)) h.0 h.1);
  written = written_after w h.0 a b c status first h.2;
}
end_given (Err e) all sums at_end old new x w t a b c status first says here ends =
    error_given all sums at_end old x w t x e a b c status first
    (λ line answer h error with. subst (λ i. IsAnswer all (recorded.layout old) (recorded.longest old) sums at_end i answer) (append-nil x) (end_stops all sums at_end old new x w t line e answer says h error with)) ends
