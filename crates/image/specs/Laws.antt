-- What the crates above prove with: laws of the image. Nothing here has to be believed.
use Rattle.std.specs.Prelude.{◌≡◌, ℕ, ◌+◌, ◌<◌, ◌≤◌, true, List, [], length, Some, slice_index_or}
use Rattle.std.proofs.lemmas.Bool.{and_parts, leb-true}
use Rattle.records.specs.declared.record.Record.{Record}
use Rattle.records.specs.Form.{decoded, Exact}
use Rattle.layout.specs.Codes.{codes_of}
use Rattle.layout.specs.Rows.{rows_of}
use Rattle.journals.specs.Redo.{home_blocks}
use Rattle.image.specs.Home.{block_at, blocks_at}
use Rattle.image.specs.Layout.{lawful_size}
use Rattle.image.specs.Verdict.{AcceptsExactlyLawful}
use Rattle.image.specs.Laws.Accepting as accepting
use Rattle.image.specs.Laws.Places as places
use Rattle.image.specs.Laws.Replaying as replaying
pub mod Places
pub mod Comparing
pub mod Replaying
pub mod Accepting
pub mod Inspecting

-- a lawful size is from 35 to 1,024
pub size_low : (n : ℕ) → lawful_size n ≡ true → 35 ≤ n
size_low n e = leb-true 35 n (and_parts _ _ e).0

pub size_high : (n : ℕ) → lawful_size n ≡ true → n ≤ 1024
size_high n e = leb-true n 1024 (and_parts _ _ e).1

-- the verdict accepts exactly the lawful images
pub accepts_exactly_lawful : AcceptsExactlyLawful
accepts_exactly_lawful = accepting.accepts_exactly_lawful

-- an exact block is read as its record
pub read_exact : (k : ℕ) (x : Record) (c : List ℕ) → Exact k x c → decoded k c ≡ Some x
read_exact k x c f = replaying.read_exact k x c f

-- a home block, by its number on the drive
pub at_home : (p : List (List ℕ)) (k : ℕ) → 7 ≤ k → block_at (home_blocks p) k ≡ slice_index_or p k []
at_home p k h = places.at_home p k h

-- block j of n from k on
pub block_of : (h : List (List ℕ)) (k n j : ℕ) → j < n → slice_index_or (blocks_at h k n) j [] ≡ block_at h (k + j)
block_of h k n j l = places.block_of h k n j l

pub length-blocks : (h : List (List ℕ)) (k n : ℕ) → length (blocks_at h k n) ≡ n
length-blocks h k n = places.length-blocks h k n

-- a block has eight codes, and four rows
pub eight_codes : (c : List ℕ) → length (codes_of c) ≡ 8
eight_codes c = places.eight_codes c

pub four_rows : (c : List ℕ) → length (rows_of c) ≡ 4
four_rows c = places.four_rows c
