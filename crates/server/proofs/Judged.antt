-- Why files are refused has to do with no socket.
use Rattle.server.proofs.Names.{◌≡◌, List, Option, sym, subst, Text, Topology, Guarantee, Known, FileRefusal, CommandRefusal, Line, Refused, TooLong, Unread, NoDescriptor, Unwritten, NoExchange, NotListening, of_refused, FailsOver, IsWhyUnadmitted, not_set_up, not_certified, not_admitted, no_memory, IsOfFiles}
use Rattle.model.specs.Certificates.{Certificate as Shown}
use Rattle.server.specs.declared.file_refusals.FileRefusal.TheVariants as file
use Rattle.server.specs.declared.refusals.CommandRefusal.TheVariants.{Certificate, Memory}

of_cause : (cause : FileRefusal) → IsOfFiles (of_refused cause)
of_cause (file.Refused n) = tt
of_cause file.TooLong = tt
of_cause file.Unread = tt
of_cause file.NoDescriptor = tt
of_cause file.Memory = tt

by_cause : (why : CommandRefusal) (cause : FileRefusal) → why ≡ of_refused cause → IsOfFiles why
by_cause why cause e = subst (λ (r : CommandRefusal). IsOfFiles r) (sym e) (of_cause cause)

of_certificates : (t : Topology) (gs : List Guarantee) (cs : List Shown) (why : CommandRefusal) → IsWhyUnadmitted t gs cs why → IsOfFiles why
of_certificates t gs cs (Line n) h = tt
of_certificates t gs cs (Refused n) h = tt
of_certificates t gs cs TooLong h = tt
of_certificates t gs cs Unread h = tt
of_certificates t gs cs NoDescriptor h = tt
of_certificates t gs cs Unwritten h = tt
of_certificates t gs cs NoExchange h = tt
of_certificates t gs cs (Certificate n k) h = tt
of_certificates t gs cs NotListening h = absurd h
of_certificates t gs cs Memory h = tt

-- so whatever files are refused for over which a broker is to run
pub judged_over : (holds : Text → Known) (d g c : Option Text) (name : Text) (why : CommandRefusal) → FailsOver holds d g c name why → IsOfFiles why
judged_over holds d g c name why (not_set_up h) = by_cause why h.0 h.1
judged_over holds d g c name why (not_certified stated gs s h) = by_cause why h.0 h.1
judged_over holds d g c name why (not_admitted stated gs cs cause s certifies h) = of_certificates stated.topology gs cs cause h
judged_over holds d g c name why no_memory = tt
