use Rattle.std.proofs.Common.{sym, ◌∙◌}
use Rattle.reading.proofs.Lines.{found, said_line}
use Rattle.reading.proofs.said_at.Goals as goal

pub slice_bounds-trimmed-end : goal.slice_bounds-trimmed-end
slice_bounds-trimmed-end c =
    (found c.args.text.now c.args.at c.in-Some-line_at.piece (sym c.line_at.ensures ∙ c.in-Some-line_at.is)).ends

pub returns-in-Some-line_at : goal.returns-in-Some-line_at
returns-in-Some-line_at c =
    said_line c.args.kind c.args.given c.args.text.now _ c.args.at c.in-Some-line_at.piece c.line_of.result
    (found c.args.text.now c.args.at c.in-Some-line_at.piece (sym c.line_at.ensures ∙ c.in-Some-line_at.is))
    c.trimmed-line.ensures c.line_of.ensures
