use Rattle.std.proofs.Common.{◌≡◌, ℕ, arith, ap, subst, sym, ◌∙◌, length, List, ◌<◌, ◌+◌, ◌*◌, get_or}
use Rattle.mysql_frames.specs.Frames.{most, header}
use Rattle.mysql_frames.specs.FrameHeader.{length_in}
use Rattle.mysql_frames.specs.Unfinished.{number_of}
use Rattle.mysql_frames.proofs.Held.{out_of_order, longer}
use Rattle.mysql_frames.proofs.Shown.{shown_order, shown_long}
use Rattle.mysql_frames.proofs.unfinished.Unfinished.length.Goals as goal
use Rattle.mysql_frames.proofs.unfinished.Unfinished.length.Goals.{then-self-start-via-then-self-start, then-self-start-via-else-self-start+then-self-start-2}

pub returns-clause-ok : goal.returns-clause-ok
returns-clause-ok c =
    let r = c.args.self.now in
    let head = c.as_slice-head.result.now in
    let four : length head ≡ 4 = ap length c.as_slice-head.ensures.value ∙ c.requires.whole in
    let is : head ≡ header c.length_in-len.result (number_of r.full r.first) = c.length_in-len.ensures.header four ∙ ap (header c.length_in-len.result) (c.if-head-number.false ∙ c.number.ensures) in
    record { head = sym c.as_slice-head.ensures.value ∙ is; below = omega arith; no_longer = omega arith }

pub returns-then-head-number-clause-refused : goal.returns-then-head-number-clause-refused
returns-then-head-number-clause-refused c =
    let r = c.args.self.now in
    let head = c.as_slice-head.result.now in
    let four : length head ≡ 4 = ap length c.as_slice-head.ensures.value ∙ c.requires.whole in
    let is : r.head.items ≡ header c.length_in-len.result (get_or head 3 0) = sym c.as_slice-head.ensures.value ∙ c.length_in-len.ensures.header four in (
      shown_order r.full r.first r.limit c.length_in-len.result (get_or head 3 0) r.head.items r.payload.items c.requires.reading.first c.requires.reading.start c.requires.reading.bounded is
          (λ e. c.if-head-number.true (e ∙ sym c.number.ensures)),
      λ more payload after rest h. out_of_order most r.full h.0 r.first payload after r.head.items r.payload.items more rest c.requires.reading.first c.requires.reading.start c.requires.whole
          (λ e. c.if-head-number.true (ap (λ (xs : List ℕ). get_or xs 3 0) c.as_slice-head.ensures.value ∙ e ∙ sym c.number.ensures)) h.1,
    )

pub returns-then-self-start-clause-refused : goal.returns-then-self-start-clause-refused
returns-then-self-start-clause-refused c =
    let r = c.args.self.now in
    let head = c.as_slice-head.result.now in
    let len = c.length_in-len.result in
    let four : length head ≡ 4 = ap length c.as_slice-head.ensures.value ∙ c.requires.whole in
    let is : head ≡ header len (number_of r.full r.first) = c.length_in-len.ensures.header four ∙ ap (header len) (c.if-head-number.false ∙ c.number.ensures) in
    let says : len ≡ length_in r.head.items = c.length_in-len.ensures.value ∙ ap length_in c.as_slice-head.ensures.value in
    let past : r.limit < r.full * most + len = elim c.then-self-start.branch [ then-self-start-via-then-self-start w ↦ omega arith | then-self-start-via-else-self-start+then-self-start-2 w ↦ omega arith ] in (
      shown_long r.full r.first r.limit len r.head.items r.payload.items c.requires.reading.first c.requires.reading.start c.requires.reading.bounded (sym c.as_slice-head.ensures.value ∙ is) past,
      λ more payload after rest h. longer most r.full h.0 r.first r.limit payload after r.head.items r.payload.items more rest c.requires.reading.first c.requires.reading.start c.requires.whole
          (subst (λ l. r.limit < r.full * most + l) says past) h.1,
    )
