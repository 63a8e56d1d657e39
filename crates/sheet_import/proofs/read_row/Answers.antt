-- `sheet_import::read_row` meets its contract: what was put is the row's line where it fits, and is too long otherwise.
use Rattle.laws.proofs.{ap, ◌∙◌, drop}
use Rattle.sheet_read.specs.{Reading, joined_from}
use Rattle.text.proofs.Writes.{wrote_then}
use Rattle.line.specs.{entry_of}
use Rattle.sheet_import.proofs.Lines.{line_long, line_within, line_stands}
use Rattle.sheet_import.proofs.read_row.Goals as goal

pub returns-then-end-gt-LINE_ROOM : goal.returns-then-end-gt-LINE_ROOM
returns-then-end-gt-LINE_ROOM c =
    let put = wrote_then (wrote_then (wrote_then c.put_byte-letter.ensures c.put_byte-start.ensures) c.put_joined-row.ensures.wrote) c.put_byte-end.ensures in
    record {
      parsed = line_long (joined_from Reading.RowStart (drop c.args.at c.args.sheet.now)) _ _ put c.if-end-gt-LINE_ROOM.true;
      next = c.put_joined-row.ensures.next;
    }

pub slice_bounds-parse-end : goal.slice_bounds-parse-end
slice_bounds-parse-end c =
    let put = wrote_then (wrote_then (wrote_then c.put_byte-letter.ensures c.put_byte-start.ensures) c.put_joined-row.ensures.wrote) c.put_byte-end.ensures in
    line_within (joined_from Reading.RowStart (drop c.args.at c.args.sheet.now)) _ _ put c.if-end-gt-LINE_ROOM.false

pub returns : goal.returns
returns c =
    let put = wrote_then (wrote_then (wrote_then c.put_byte-letter.ensures c.put_byte-start.ensures) c.put_joined-row.ensures.wrote) c.put_byte-end.ensures in
    record {
      parsed =
          c.parse.ensures
          ∙ ap entry_of (line_stands (joined_from Reading.RowStart (drop c.args.at c.args.sheet.now)) _ _ put c.if-end-gt-LINE_ROOM.false);
      next = c.put_joined-row.ensures.next;
    }
