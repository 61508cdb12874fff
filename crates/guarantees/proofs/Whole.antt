-- From the guarantees of a file to the whole of it.
use Rattle.guarantees.proofs.Names.{ℕ, List, FileCause, free_of, Topology, Guarantee, AreClear, AreReported, AreAccepted, AreRefused, IsGuaranteesFile, AreClearFor}
use Rattle.json_file.proofs.Refused as files
use Rattle.guarantees.specs.Stated.{guarantees_at}

pub refused : (bytes : List ℕ) (t : Topology) (gs : List Guarantee) (bad : FileCause) → IsGuaranteesFile bytes gs → AreReported bad t gs → AreRefused bad t bytes
refused bytes t gs bad w h = files.refused guarantees_at (AreClearFor t) bytes gs bad (record { json = tt; shape = tt }) w h

pub accepted : (bytes : List ℕ) (t : Topology) (gs : List Guarantee) → IsGuaranteesFile bytes gs → ((bad : FileCause) → AreClear bad t gs) → AreAccepted gs t bytes
accepted bytes t gs w c = record { free = λ bad. free_of guarantees_at (AreClearFor t) bytes gs bad w (c bad); is_file = w }
