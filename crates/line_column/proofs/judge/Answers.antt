-- `line_column::judge` meets its contract: the verdict, case by case, is the rule's, the column is that of the two letters, and the cells are kept as they were read.
use Rattle.laws.proofs.{ap, ◌∙◌, lit<}
use Rattle.text_field.proofs.Laws.{count-found}
use Rattle.refusals.specs.{weigh_all, smallest}
use Rattle.line_entry.specs.{letter_in}
use Rattle.line_entry.proofs.Laws.{found}
use Rattle.line_cells.specs.{cells_found}
use Rattle.line_column.specs.{column_rule}
use Rattle.line_column.proofs.Laws.{counted}
use Rattle.line_column.proofs.judge.Goals as goal

pub all_cells-cells-requires : goal.all_cells-cells-requires
all_cells-cells-requires c = c.requires

pub returns : goal.returns
unfolding column_rule cells_found smallest weigh_all
returns c =
    let scanned = c.requires in
    let first = found letter_in _ _ 0 _ scanned (lit< tt) (c.letter_in-first.ensures ∙ ap letter_in c.field.ensures) in
    let kind = found letter_in _ _ 1 _ scanned (lit< tt) (c.letter_in-kind.ensures ∙ ap letter_in c.field-2.ensures) in
    let type = found letter_in _ _ 2 _ scanned (lit< tt) (c.letter_in-named.ensures ∙ ap letter_in c.field-3.ensures) in
    let count = counted _ _ _ scanned c.cell_count-count.ensures in record {
      verdict_value = (
        simp (
          c.weigh-verdict.ensures,
          c.weigh-v-6.ensures,
          c.weigh-v-5.ensures,
          c.is_type.ensures,
          c.weigh-v-4.ensures,
          c.weigh-v-3.ensures,
          c.is_kind.ensures,
          c.weigh-v-2.ensures,
          c.weigh-v.ensures,
          c.all_cells-cells.ensures.value,
          type,
          kind,
          first,
          count,
          count-found _ _ scanned,
        ),
        simp (c.column_number-column.ensures, type, kind),
        count,
      );
      kept_after = c.all_cells-cells.ensures.cells_after;
    }
