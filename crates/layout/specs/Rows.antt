-- A block of rows: four rows of 16 bytes.
use Rattle.std.specs.Prelude.{ℕ, ◌+◌, ◌*◌, List, ◌∷◌, ◌++◌, map, replicate, slice_index}
use Rattle.std.specs.Int.{w64, to_le_bytes}
use Rattle.std.specs.List.{range_with_len, flat_map}
use Rattle.encoding.specs.Numbers.{number_at}
use Rattle.rights.specs.declared.row.Row.{Row}

-- user, procedure and role in a byte each, five zeros, and the mask
abbrev pub row_form : Row → List ℕ
row_form w = w.user ∷ (w.procedure ∷ (w.role ∷ (replicate 5 0 ++ to_le_bytes w64 w.mask)))

abbrev pub rows_form : List Row → List ℕ
rows_form ws = flat_map row_form ws

-- the row that a block's fields give from a byte on
abbrev pub row_from : List ℕ → ℕ → Row
row_from c k =
    record {
      user = slice_index c k;
      procedure = slice_index c (k + 1);
      role = slice_index c (k + 2);
      mask = number_at w64 c (k + 8);
    }

-- the four rows that a block's fields give
abbrev pub rows_of : List ℕ → List Row
rows_of c = map (λ i. row_from c (16 * i)) (range_with_len 0 4)
