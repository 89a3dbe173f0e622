mod FirstMisfit
mod RangeGoesOn
mod SlotsSaid
