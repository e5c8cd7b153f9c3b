-- The version of the exports, as include/bridgenook.h has it: major * 1,000,000 + minor * 1,000 + patch. Assumes nothing.
use Rattle.std.specs.Prelude.{ℕ}

abbrev pub version : ℕ
version = 1000000
