use Rattle.std.proofs.Common.{◌≡◌, map, take}
use Rattle.script.specs.Reading.{setup_value, numbered_value}
use Rattle.day.specs.Plan.{requests_in, expected_in, requests_of, all_expected}
use Rattle.day.proofs.plan.plan_day.Given as goal

-- the commands so far are planned
abbrev pub invariant-loop-numbered : goal.invariant-loop-numbered
invariant-loop-numbered l = record {
  requests : requests_in l.plan ≡ requests_of (setup_value l.setup) (map numbered_value (take l.numbered-index l.commands));
  expected : expected_in l.plan ≡ all_expected l.fn.start (setup_value l.setup) (map numbered_value (take l.numbered-index l.commands));
}
