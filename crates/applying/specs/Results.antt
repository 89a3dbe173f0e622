-- What a function promises that works on a state of the books in place.
use Rattle.std.specs.Prelude.{◌≡◌, Ok, Err, Result, MatchResult}
use Rattle.refusals.specs.declared.refusal.Refusal.{Refusal}
use Rattle.applying.specs.BookState.{BookState, state_of}
use Rattle.applying.specs.declared.book_state.BookState as memory

-- it leaves what the definition gives, or refuses as the definition does and leaves what was there
abbrev pub Applies : Result BookState Refusal → BookState → Result (Unit {0}) Refusal → BookState → Type 0
Applies given before answer after =
    MatchResult answer (λ _. given ≡ Ok after) (λ e. (given ≡ Err e) × (after ≡ before))

-- the same of a state in memory, where there is room for as many records as before
pub record Leaves (given : Result BookState Refusal) (before : memory.BookState) (answer : Result (Unit {0}) Refusal) (after : memory.BookState) : Type 0 where
  pub applies : Applies given (state_of before) answer (state_of after)
  pub same_room : after.room ≡ before.room

-- it hands out what the definition gives, or refuses as the definition does
abbrev pub Gives : Result BookState Refusal → Result memory.BookState Refusal → Type 0
Gives given answer = MatchResult answer (λ state. given ≡ Ok (state_of state)) (λ e. given ≡ Err e)
