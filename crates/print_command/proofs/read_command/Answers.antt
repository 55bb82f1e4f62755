use native.Mathlib.Omega.{arith}
use Rattle.slices.specs.Parts.{part}
use Rattle.report.proofs.CommandLaws as law
use Rattle.print_command.proofs.read_command.Goals as goal

pub returns-then-input-lt-COMMAND_SIZE : goal.returns-then-input-lt-COMMAND_SIZE
returns-then-input-lt-COMMAND_SIZE c =
    law.too_short _ c.if-input-lt-COMMAND_SIZE.true

pub returns-then-input-ne10 : goal.returns-then-input-ne10
returns-then-input-ne10 c =
    law.no_newline c.args.input.now c.if-input-lt-COMMAND_SIZE.false (λ e. omega arith)

pub command_of-requires : goal.command_of-requires
unfolding part
command_of-requires c =
    λ w e. law.set_fits c.args.input.now w c.if-input-lt-COMMAND_SIZE.false c.read_column-set.ensures e

pub returns : goal.returns
unfolding part
returns c =
    law.with_columns _ c.if-input-lt-COMMAND_SIZE.false c.if-input-ne10.false c.read_column-n.ensures c.read_column-m.ensures c.read_column-leading.ensures c.read_column-set.ensures c.command_of.ensures
