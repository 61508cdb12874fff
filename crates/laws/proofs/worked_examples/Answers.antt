use Rattle.laws.proofs.Rows.{words_of_keys, first_input, first_output, bad_end_answer, too_large, headline_refuses, first_consumes, refused_consumes, full_queues}
use Rattle.laws.proofs.Disagreeing.{agreement_refuses}
use Rattle.laws.proofs.Refusing.{accounts_refuse}
use Rattle.laws.proofs.Confirming.{confirms_refuse}
use Rattle.laws.proofs.Deaths.{worked_deaths, deaths_refuse}
use Rattle.laws.proofs.worked_examples.Goals as goal

pub returns : goal.returns
returns c = record { words = words_of_keys; input = first_input; output = first_output; bad_end = bad_end_answer; large = too_large; refused = headline_refuses; consumer = first_consumes; refused_consumers = refused_consumes; full_queues = full_queues; agreement = agreement_refuses; accounts = accounts_refuse; confirms = confirms_refuse; deaths = worked_deaths; refused_deaths = deaths_refuse }
