-- What the held headers show.
use Rattle.std.proofs.Common.{◌≡◌, ◌≢◌, ℕ, ◌+◌, ◌*◌, ◌/◌, ◌<◌, ◌≤◌, ◌⊎◌, inl, inr, zero, suc, List, ◌++◌, length, take, drop, refl, sym, ap, subst, ◌∙◌, append_assoc, arith, length-append, length-drop}
use Rattle.std.proofs.lemmas.List.{length-take-le}
use Rattle.mysql_frames.specs.Frames.{header, most, next, FullFrames}
use Rattle.mysql_frames.specs.FrameReader.{AllLonger, Keeps, NoneWhole, ReaderState, Refuses, ShowsFault, ShowsNoFault, ShowsOutOfOrder, ShowsTooLong, LacksPart}
use Rattle.mysql_frames.specs.declared.error.FrameError.{FrameError}
use Rattle.mysql_frames.specs.declared.error.FrameError.TheVariants.{Memory, OutOfOrder, TooLong}
use Rattle.mysql_frames.specs.Unfinished.{raw, number_of}
use Rattle.mysql_frames.proofs.Raw.{number_first, number_more, next_below}
use Rattle.mysql_frames.proofs.Peel.{header_same, same_front}

-- a reader accepted full frames, and holds a part of the next one
pub full_raw : (size full number : ℕ) (head got : List ℕ) → number < 256 → full * size ≤ length got
    → (body : List ℕ) × (length got ≡ full * size + length body) × FullFrames size full number (number_of full number) (raw size full number got head) (head ++ body)
full_raw size zero number head got b e = (got, omega arith, (sym (number_first number b), refl))
full_raw size (suc full) number head got b e =
    let long : size ≤ length got = omega arith in
    let left : full * size ≤ length (drop size got) = omega (arith, length-drop size got) in
    let r = full_raw size full (next number) head (drop size got) (next_below number) left in (
      r.0,
      omega (arith, r.1, length-drop size got),
      (
        take size got,
        raw size full (next number) (drop size got) head,
        length-take-le size got long,
        refl,
        subst (λ n. FullFrames size full (next number) n (raw size full (next number) (drop size got) head) (head ++ r.0)) (number_more full number) r.2,
      ),
    )

-- the rest after full frames is no longer than the bytes
pub no_fewer : (size full number after : ℕ) (bytes rest : List ℕ) → FullFrames size full number after bytes rest → length rest ≤ length bytes
no_fewer size zero number after bytes rest h = omega (arith, ap length h.1)
no_fewer size (suc full) number after bytes rest h =
    omega (arith, no_fewer size full (next number) after h.1 rest h.4, ap length h.3, length-append h.0 h.1)

-- after full frames follows one that the reader accepted, or a part of the next one
pub peel_full : (size full j number after : ℕ) (head got rest : List ℕ) → number < 256 → full * size ≤ length got → FullFrames size j number after (raw size full number got head) rest
    → ((j < full) × (others : List ℕ) × (rest ≡ header size after ++ others))
    ⊎ ((i : ℕ) × (body : List ℕ) × (j ≡ full + i) × (length got ≡ full * size + length body) × FullFrames size i (number_of full number) after (head ++ body) rest)
peel_full size zero j number after head got rest b e h =
    inr (j, got, omega arith, omega arith, subst (λ n. FullFrames size j n after (head ++ got) rest) (sym (number_first number b)) h)
peel_full size (suc full) zero number after head got rest b e h =
    let others = take size got ++ raw size full (next number) (drop size got) head in
    inl (omega arith, others, sym h.1 ∙ ap (λ n. header size n ++ others) h.0)
peel_full size (suc full) (suc j) number after head got rest b e h =
    let long : size ≤ length got = omega arith in
    let left : full * size ≤ length (drop size got) = omega (arith, length-drop size got) in
    let cut = header_same size size number number _ _ h.3 in
    let f = same_front (take size got) _ h.0 h.1 (length-take-le size got long ∙ sym h.2) cut.2 in
    let r = peel_full size full j (next number) after head (drop size got) rest (next_below number) left
    (subst (λ bytes. FullFrames size j (next number) after bytes rest) (sym f.1) h.4) in
    elim r [
      | inl a ↦ inl (omega (arith, a.0), a.1, a.2)
      | inr a ↦
          inr (a.0, a.1, omega (arith, a.2), omega (arith, a.3, length-drop size got), subst (λ n. FullFrames size a.0 n after (head ++ a.1) rest) (number_more full number) a.4)
    ]

-- if the next header is incomplete, each header is in order and within the limit
pub head_right : (full j number after len other limit : ℕ) (head got others : List ℕ) → number < 256 → length got ≡ full * most → length head < 4 → length got ≤ limit
    → FullFrames most j number after (raw most full number got head) (header len other ++ others) → (other ≡ after) × (j * most + len ≤ limit)
head_right full j number after len other limit head got others b e short within h =
    elim (peel_full most full j number after head got (header len other ++ others) b (omega arith) h) [
      | inl a ↦ let same = header_same len most other after others a.1 a.2 in (same.1, omega (arith, a.0, same.0))
      | inr a ↦ absurd (omega (arith, a.3, no_fewer most a.0 (number_of full number) after (head ++ a.1) (header len other ++ others) a.4, length-append head a.1))
    ]

-- if the next frame is incomplete, and its header is in order and within the limit, each header is
body_right_in : (i full number after len other said : ℕ) (body others : List ℕ) → length body < said
    → FullFrames most i number after (header said number ++ body) (header len other ++ others) → (i ≡ 0) × (other ≡ after) × (len ≡ said)
body_right_in zero full number after len other said body others short h =
    let same = header_same said len number other body others h.1 in (refl, sym same.1 ∙ h.0, sym same.0)
body_right_in (suc i) full number after len other said body others short h =
    let same = header_same said most number number body (h.0 ++ h.1) h.3 in
    absurd (omega (arith, short, same.0, ap length same.2, length-append h.0 h.1, h.2))

pub body_right : (full j number after len other limit said : ℕ) (head got others : List ℕ) → number < 256 → full * most ≤ length got → head ≡ header said (number_of full number)
    → length got < full * most + said → full * most + said ≤ limit
    → FullFrames most j number after (raw most full number got head) (header len other ++ others) → (other ≡ after) × (j * most + len ≤ limit)
body_right full j number after len other limit said head got others b e is short within h =
    elim (peel_full most full j number after head got (header len other ++ others) b e h) [
      | inl a ↦ let same = header_same len most other after others a.1 a.2 in (same.1, omega (arith, a.0, same.0))
      | inr a ↦
          let r = body_right_in a.0 full (number_of full number) after len other said a.1 others (omega (arith, a.3, short))
          (subst (λ h. FullFrames most a.0 (number_of full number) after (h ++ a.1) (header len other ++ others)) is a.4) in
          (r.1, omega (arith, a.2, r.0, r.2, within))
    ]

-- so no error is shown
pub none_shown : (reader : ReaderState)
    → ((full after len number : ℕ) (others : List ℕ) → FullFrames most full reader.number after reader.held (header len number ++ others) → (number ≡ after) × (full * most + len ≤ reader.limit))
    → ShowsNoFault reader
none_shown reader right =
    (λ s. s.6 (right s.0 s.1 s.2 s.3 s.4 s.5.before).0, λ s. absurd (omega (arith, s.5, (right s.0 s.1 s.2 s.1 s.3 s.4.before).1)))

-- a header out of order
pub shown_order : (full number limit len other : ℕ) (head got : List ℕ) → number < 256 → full * most ≤ length got → length got ≤ limit → head ≡ header len other
    → other ≢ number_of full number → ShowsOutOfOrder (record { held = raw most full number got head; number = number; limit = limit })
shown_order full number limit len other head got b e within is wrong =
    let r = full_raw most full number head got b e in (
      full,
      number_of full number,
      len,
      other,
      r.0,
      record { before = subst (λ h. FullFrames most full number (number_of full number) (raw most full number got head) (h ++ r.0)) is r.2; within = omega (arith, e, within) },
      wrong,
    )

-- a header with which the payload exceeds the limit
pub shown_long : (full number limit len : ℕ) (head got : List ℕ) → number < 256 → full * most ≤ length got → length got ≤ limit → head ≡ header len (number_of full number)
    → limit < full * most + len → ShowsTooLong (record { held = raw most full number got head; number = number; limit = limit })
shown_long full number limit len head got b e within is long =
    let r = full_raw most full number head got b e in (
      full,
      number_of full number,
      len,
      r.0,
      record { before = subst (λ h. FullFrames most full number (number_of full number) (raw most full number got head) (h ++ r.0)) is r.2; within = omega (arith, e, within) },
      long,
    )

-- a frame with missing bytes
pub part_lacks : (full number limit len : ℕ) (head got : List ℕ) → number < 256 → full * most ≤ length got → head ≡ header len (number_of full number)
    → full * most + len ≤ limit → length got < full * most + len → LacksPart (record { held = raw most full number got head; number = number; limit = limit })
part_lacks full number limit len head got b e is within short =
    let r = full_raw most full number head got b e in (
      full,
      number_of full number,
      len,
      r.0,
      record { before = subst (λ h. FullFrames most full number (number_of full number) (raw most full number got head) (h ++ r.0)) is r.2; within = omega (arith, within) },
      within,
      omega (arith, r.1, short),
    )

-- how many bytes a reader holds
pub raw_length : (size full number : ℕ) (payload head : List ℕ) → full * size ≤ length payload → length (raw size full number payload head) ≡ 4 * full + length head + length payload
raw_length size zero number payload head e = omega (arith, length-append head payload)
raw_length size (suc full) number payload head e =
    let rest : full * size ≤ length (drop size payload) = omega (arith, length-drop size payload) in
    let long : size ≤ length payload = omega arith in
    omega (arith, raw_length size full (next number) (drop size payload) head rest, length-drop size payload, length-take-le size payload long, length-append (take size payload) (raw size full (next number) (drop size payload) head))

pub held_bounded : (full number limit : ℕ) (payload head : List ℕ) → full * most ≤ length payload → length payload ≤ limit → length head ≤ 4
    → length (raw most full number payload head) ≤ limit + 4 * (limit / most + 1)
held_bounded full number limit payload head e within four = omega (arith, raw_length most full number payload head e, e, within, four)

-- the first wrong header is either out of order or beyond the limit
one_fault : (i j start number a b la lb limit other : ℕ) (bytes others rest : List ℕ) → start + i * most ≤ limit → limit < start + j * most + lb → other ≢ a
    → FullFrames most i number a bytes (header la other ++ others) → FullFrames most j number b bytes (header lb b ++ rest) → ⊥
one_fault zero zero start number a b la lb limit other bytes others rest within long wrong g h =
    let same = header_same la lb other b others rest (sym g.1 ∙ h.1) in
    wrong (same.1 ∙ sym h.0 ∙ g.0)
one_fault zero (suc j) start number a b la lb limit other bytes others rest within long wrong g h =
    let same = header_same la most other number others _ (sym g.1 ∙ h.3) in
    wrong (same.1 ∙ g.0)
one_fault (suc i) zero start number a b la lb limit other bytes others rest within long wrong g h =
    let same = header_same most lb number b _ rest (sym g.3 ∙ h.1) in
    omega (arith, within, long, same.0)
one_fault (suc i) (suc j) start number a b la lb limit other bytes others rest within long wrong g h =
    let same = header_same most most number number _ _ (sym g.3 ∙ h.3) in
    let f = same_front g.0 g.1 h.0 h.1 (g.2 ∙ sym h.2) same.2 in
    one_fault i j (start + most) (next number) a b la lb limit other g.1 others rest (omega (arith, within)) (omega (arith, long)) wrong g.4
    (subst (λ bytes. FullFrames most j (next number) b bytes (header lb b ++ rest)) (sym f.1) h.4)

pub faults_differ : (reader : ReaderState) → ShowsOutOfOrder reader → ShowsTooLong reader → ⊥
faults_differ reader x y =
    one_fault x.0 y.0 0 reader.number x.1 y.1 x.2 y.2 reader.limit x.3 reader.held x.4 y.3 (omega (arith, x.5.within)) (omega (arith, y.5)) x.6 x.5.before y.4.before

-- a wrong header is refused whatever follows
pub fault_refuses : (reader : ReaderState) (rest : List ℕ) (fault : FrameError) → ShowsFault reader fault → Refuses reader rest fault
fault_refuses reader rest OutOfOrder shown = shown
fault_refuses reader rest TooLong shown = shown
fault_refuses reader rest Memory shown = absurd shown

-- no byte is lost, so what follows the bytes held follows the bytes before the call
kept_bytes : (old new : ReaderState) (input rest more : List ℕ) → Keeps old input new rest → new.held ++ (rest ++ more) ≡ old.held ++ input ++ more
kept_bytes old new input rest more k = sym (append_assoc new.held rest more) ∙ ap (λ bytes. bytes ++ more) k.bytes

pub none_before : (old new : ReaderState) (input rest : List ℕ) → Keeps old input new rest → ((more : List ℕ) → NoneWhole new.number (new.held ++ more))
    → (more : List ℕ) → NoneWhole old.number (old.held ++ input ++ more)
none_before old new input rest k none more =
    subst (λ n. NoneWhole n (old.held ++ input ++ more)) k.number (subst (NoneWhole new.number) (kept_bytes old new input rest more k) (none (rest ++ more)))

pub longer_before : (old new : ReaderState) (input rest : List ℕ) → Keeps old input new rest → ((more : List ℕ) → AllLonger new.limit new.number (new.held ++ more))
    → (more : List ℕ) → AllLonger old.limit old.number (old.held ++ input ++ more)
longer_before old new input rest k longer more =
    subst (λ l. AllLonger l old.number (old.held ++ input ++ more)) k.limit
    (subst (λ n. AllLonger new.limit n (old.held ++ input ++ more)) k.number (subst (AllLonger new.limit new.number) (kept_bytes old new input rest more k) (longer (rest ++ more))))
