-- The definitions of a result in order.
use Rattle.std.proofs.Common.{◌≡◌, ◌∙◌, ℕ, suc, ◌≤◌, ◌&&◌, true, List, [], ◌∷◌, ◌++◌, Some, length, refl, sym, ap, inl, inr, if◌then◌else◌, append_assoc}
use Rattle.std.proofs.lemmas.Bool.{le-leb}
use Rattle.std.proofs.lemmas.List.{append-nil}
use Rattle.mysql_conversation.specs.Agreements.{Agreed}
use Rattle.mysql_conversation.specs.declared.packet_kind.PacketKind.TheVariants as kind
use Rattle.mysql_statements.specs.Packets.{column_at}
use Rattle.mysql_statements.specs.ResultColumns.{ResultColumns, unknown, next, after, after_all, known}
use Rattle.mysql_statements.specs.Run.{Item, AreDefinitions}
use Rattle.mysql_statements.specs.declared.row_column.RowColumn.{RowColumn}

result : ℕ → ℕ → List RowColumn → ResultColumns
result limit left cs = record { limit = limit; left = Some left; columns = cs }

after_one : (a : Agreed) (x : Item) (c : RowColumn) (more cs done : List RowColumn) (limit : ℕ) → cs ≡ c ∷ more → x.kind ≡ kind.Column → column_at a x.payload ≡ Some c
    → after true a x.kind x.payload (result limit (length cs) done) ≡ result limit (length more) (done ++ c ∷ [])
unfolding result
after_one a x c more cs done limit e k d =
    ap (λ l. after true a x.kind x.payload (result limit (length l) done)) e
    ∙ ap (λ w. after true a w x.payload (result limit (suc (length more)) done)) k
    ∙ ap (λ o. next true (length more) o (result limit (suc (length more)) done)) d

run : (a : Agreed) (limit : ℕ) (items : List Item) (done cs : List RowColumn) → AreDefinitions a items cs
    → known (after_all a items (result limit (length cs) done)) ≡ Some (done ++ cs)
unfolding result
run a limit [] done cs d =
    ap (λ l. known (result limit (length l) done)) d ∙ ap (λ l. Some l) (sym (append-nil done) ∙ ap (λ l. done ++ l) (sym d))
run a limit (x ∷ xs) done cs (inl d) =
    ap (λ w. known (after_all a xs (after true a w x.payload (result limit (length cs) done)))) d.0 ∙ run a limit xs done cs d.1
run a limit (x ∷ xs) done cs (inr d) =
    ap (λ r. known (after_all a xs r)) (after_one a x d.0 d.1 cs done limit d.2 d.3.0 d.3.1)
    ∙ run a limit xs (done ++ d.0 ∷ []) d.1 d.4
    ∙ ap (λ l. Some l) (append_assoc done (d.0 ∷ []) d.1 ∙ ap (λ l. done ++ l) (sym d.2))

pub run_definitions : (a : Agreed) (r : ResultColumns) (p : List ℕ) (items : List Item) (cs : List RowColumn) → length cs ≤ r.limit → AreDefinitions a items cs
    → known (after_all a items (after true a (kind.ColumnCount (length cs) true) p r)) ≡ Some cs
unfolding result
run_definitions a r p items cs h d =
    ap (λ b. known (after_all a items (if true && b then result r.limit (length cs) [] else unknown r.limit))) (le-leb (length cs) r.limit h)
    ∙ run a r.limit items [] cs d
