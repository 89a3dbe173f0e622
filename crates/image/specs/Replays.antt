-- What replaying records promises.
use Rattle.std.specs.Prelude.{◌≡◌, Ok, Err, Result, MatchResult}
use Rattle.refusals.specs.declared.refusal.Refusal.{Refusal}
use Rattle.applying.specs.BookState.{BookState}

-- it leaves what the definition gives, or refuses as the definition does
abbrev pub Replays : Result BookState Refusal → Result (Unit {0}) Refusal → BookState → Type 0
Replays given answer after = MatchResult answer (λ _. given ≡ Ok after) (λ e. given ≡ Err e)
