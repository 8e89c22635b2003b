use Rattle.std.proofs.Common.{sym}
use Rattle.log_text.specs.Words.{words}
use Rattle.log_text.proofs.ReadAgain.{record_text-words, record_again}
use Rattle.log_text.proofs.ReadFound.{record_found}
use Rattle.log_text.proofs.laws.one_text_of_a_record.Goals as goal

pub returns-clause-found : goal.returns-clause-found
returns-clause-found c line entry e = let p = record_found (words line) entry e in (sym p.0, p.1)

pub returns-clause-words : goal.returns-clause-words
returns-clause-words c = record_text-words

pub returns-clause-again : goal.returns-clause-again
returns-clause-again c = record_again
