-- The causes that guarantees may have, one by one.
use Rattle.guarantees.proofs.Names.{◌<◌, List, arith, All, Topology, Guarantee, FileCause, Absent, Worded, TooMany, AreClear, AreFewEnough, IsGuaranteeWorded, NamesAreThere}
use Rattle.json_file.specs.Causes.{cause_number}

-- what no test looks for is clear
pub below_names : (t : Topology) (gs : List Guarantee) (lower : FileCause) → cause_number lower < 5 → AreClear lower t gs
below_names t gs Absent h = absurd (omega (arith, h))
below_names t gs Worded h = absurd (omega (arith, h))
below_names t gs TooMany h = absurd (omega (arith, h))
below_names t gs _ h = tt

pub below_words : (t : Topology) (gs : List Guarantee) → All (NamesAreThere t) gs → (lower : FileCause) → cause_number lower < 9 → AreClear lower t gs
below_words t gs there Absent h = there
below_words t gs there Worded h = absurd (omega (arith, h))
below_words t gs there TooMany h = absurd (omega (arith, h))
below_words t gs there _ h = tt

pub below_counts : (t : Topology) (gs : List Guarantee) → All (NamesAreThere t) gs → All IsGuaranteeWorded gs → (lower : FileCause) → cause_number lower < 10 → AreClear lower t gs
below_counts t gs there worded Absent h = there
below_counts t gs there worded Worded h = worded
below_counts t gs there worded TooMany h = absurd (omega (arith, h))
below_counts t gs there worded _ h = tt

pub all_clear : (t : Topology) (gs : List Guarantee) → All (NamesAreThere t) gs → All IsGuaranteeWorded gs → AreFewEnough gs → (bad : FileCause) → AreClear bad t gs
all_clear t gs there worded few Absent = there
all_clear t gs there worded few Worded = worded
all_clear t gs there worded few TooMany = few
all_clear t gs there worded few _ = tt
