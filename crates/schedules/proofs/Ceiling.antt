-- "The default cells are at most 30,000 tenths each": one test over both schedules, which antt computes; each schedule is a part of them.
use Rattle.laws.proofs.{◌≡◌, refl, true, ◌++◌, length, take-append_seam}
use lib.Seq.{drop-append_seam}
use Rattle.laws.specs.{each_at_most}
use Rattle.laws.proofs.Lists.{ceiling_take, ceiling_drop}
use Rattle.schedules.specs.{joined, stock4, stock6, residue6, cell_ceiling, schedule4, schedule6}

pub default_ceiling : each_at_most cell_ceiling (schedule4 ++ schedule6) ≡ true
unfolding each_at_most joined schedule4 schedule6 stock4 stock6 residue6
default_ceiling = refl

pub four_ceiling : each_at_most cell_ceiling schedule4 ≡ true
four_ceiling =
    rw (take-append_seam schedule4 schedule6) at (ceiling_take cell_ceiling (length schedule4) (schedule4 ++ schedule6) default_ceiling)

pub six_ceiling : each_at_most cell_ceiling schedule6 ≡ true
six_ceiling =
    rw (drop-append_seam schedule4 schedule6) at (ceiling_drop cell_ceiling (length schedule4) (schedule4 ++ schedule6) default_ceiling)
