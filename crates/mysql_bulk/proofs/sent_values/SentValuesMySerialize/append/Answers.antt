use Rattle.std.proofs.Common.{rules, ◌≡◌, ◌+◌, ◌≤◌, ◌++◌, ℕ, List, length, take, drop, sym, subst, ◌∙◌, ap, arith, append_assoc, length-append}
use Rattle.std.proofs.lemmas.List.{drop-drop, nil_from_length, take_all}
use Rattle.mysql_values.specs.Value.{contents_of}
use Rattle.mysql_bulk.specs.ParamValue.{ParamValue, param_value_bytes, values_bytes}
use Rattle.mysql_bulk.specs.SentValues.{sent_values}
use Rattle.mysql_bulk.proofs.SentValues.{sent_length, bytes_more, bytes_fit, cells_where_none}
use Rattle.mysql_bulk.proofs.sent_values.SentValuesMySerialize.append.Goals as goal

pub append_cells-requires : goal.append_cells-requires
append_cells-requires g c =
    let counted : length c.args.self.now.indicators.now ≡ 0 = search rules in
    let none = nil_from_length c.args.self.now.indicators.now counted in
    subst (λ (l : List ℕ). length (g.O.Buffer.held c.args.out.now) + length l ≤ g.O.Buffer.capacity c.args.out.now)
    (cells_where_none c.args.self.now.indicators.now c.args.self.now.values.now none)
    c.requires

pub returns-then-is_empty-clause-items : goal.returns-then-is_empty-clause-items
returns-then-is_empty-clause-items g c =
    let counted : length c.args.self.now.indicators.now ≡ 0 = search rules in
    let none = nil_from_length c.args.self.now.indicators.now counted in
    c.append_cells.ensures.items
    ∙ ap (λ (l : List ℕ). (g.O.Buffer.held c.args.out.now) ++ l) (sym (cells_where_none c.args.self.now.indicators.now c.args.self.now.values.now none))

pub returns-then-is_empty-clause-after : goal.returns-then-is_empty-clause-after
returns-then-is_empty-clause-after g c =
    let counted : length c.args.self.now.indicators.now ≡ 0 = search rules in
    let none = nil_from_length c.args.self.now.indicators.now counted in
    c.append_cells.ensures.after
    ∙ ap (λ (l : List ℕ). drop (length l) (g.O.Buffer.after c.args.out.now)) (sym (cells_where_none c.args.self.now.indicators.now c.args.self.now.values.now none))

pub append-requires : goal.append-requires
append-requires g c =
    let sent = sent_values c.args.self.now.indicators.now (contents_of c.args.self.now.values.now) in
    let fits = bytes_fit sent c.loop-place.place c.at.result c.at.ensures in
    let so_far = ap length c.loop-place.invariant.items ∙ length-append (g.O.Buffer.held c.args.out.now) (values_bytes (take c.loop-place.place sent)) in
    omega (arith, fits, so_far, c.loop-place.invariant.capacity, c.requires)

pub loop-place-preserved : goal.loop-place-preserved
loop-place-preserved g c =
    let sent = sent_values c.args.self.now.indicators.now (contents_of c.args.self.now.values.now) in
    record {
      items = c.append.ensures.items
          ∙ ap (λ (l : List ℕ). l ++ param_value_bytes c.at.result) c.loop-place.invariant.items
          ∙ append_assoc (g.O.Buffer.held c.args.out.now) (values_bytes (take c.loop-place.place sent)) (param_value_bytes c.at.result)
          ∙ ap (λ (l : List ℕ). (g.O.Buffer.held c.args.out.now) ++ l) (sym (bytes_more sent c.loop-place.place c.at.result c.at.ensures));
      after = c.append.ensures.after
          ∙ ap (drop (length (param_value_bytes c.at.result))) c.loop-place.invariant.after
          ∙ drop-drop (length (param_value_bytes c.at.result)) (length (values_bytes (take c.loop-place.place sent))) (g.O.Buffer.after c.args.out.now)
          ∙ ap (λ n. drop n (g.O.Buffer.after c.args.out.now)) (omega (arith, length-append (values_bytes (take c.loop-place.place sent)) (param_value_bytes c.at.result), ap length (bytes_more sent c.loop-place.place c.at.result c.at.ensures)));
      capacity = omega (arith, c.append.ensures.capacity, c.loop-place.invariant.capacity);
      kept = c.append.ensures.kept ∙ c.loop-place.invariant.kept;
    }

pub returns-clause-items : goal.returns-clause-items
returns-clause-items g c =
    let sent = sent_values c.args.self.now.indicators.now (contents_of c.args.self.now.values.now) in
    let long = sent_length c.args.self.now.indicators.now c.args.self.now.values.now in
    c.loop-place.invariant.items ∙ ap (λ (l : List ParamValue). (g.O.Buffer.held c.args.out.now) ++ values_bytes l) (take_all c.loop-place.place sent (omega (arith, long, c.loop-place-test.false)))

pub returns-clause-after : goal.returns-clause-after
returns-clause-after g c =
    let sent = sent_values c.args.self.now.indicators.now (contents_of c.args.self.now.values.now) in
    let long = sent_length c.args.self.now.indicators.now c.args.self.now.values.now in
    c.loop-place.invariant.after
    ∙ ap (λ (l : List ParamValue). drop (length (values_bytes l)) (g.O.Buffer.after c.args.out.now)) (take_all c.loop-place.place sent (omega (arith, long, c.loop-place-test.false)))
