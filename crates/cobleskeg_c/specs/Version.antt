-- The version of the interface as one number. Assumes nothing.
use Rattle.std.specs.Prelude.{ℕ, ◌+◌, ◌*◌}

-- 10000 times the major part, 100 times the minor one, and the patch, as include/cobleskeg.h has them
unfoldable pub version : ℕ
version = 10000 * 0 + 100 * 1 + 0
