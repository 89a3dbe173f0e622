-- How the reels of a shelf are printed, for people.
use Rattle.std.specs.Prelude.{ℕ, List, ◌++◌, codes, decimal}

-- the reels held and the most that may be held: "4 held of 10"
abbrev pub reels_text : ℕ → ℕ → List ℕ
reels_text held most = decimal held ++ (codes " held of " ++ decimal most)
