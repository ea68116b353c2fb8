-- How runs end.
use Rattle.bz_streams.specs.declared.exit.Cut.{Cut}
use Rattle.bz_streams.specs.declared.exit.Cut.TheVariants as c

-- The first failure of two parts is that of the whole.
abbrev pub first_cut : Cut → Cut → Cut
first_cut c.Whole later = later
first_cut c.Memory later = c.Memory
first_cut c.Read later = c.Read
first_cut c.Write later = c.Write
first_cut c.Files later = c.Files
