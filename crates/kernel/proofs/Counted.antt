-- A selector's answer without its sign is the count. Assumes nothing.
use Rattle.std.proofs.Common.{ℕ, Float, Ok, Err}
use Rattle.refusals.specs.Refusals.{Checked, ◌or_else◌, answer_if}
use Rattle.interface.specs.Selectors.{items_of}
use Rattle.interface.specs.declared.Items.{Items}
use Rattle.kernel.specs.Answers.{AnswerIs, WrittenAnswer}
use Rattle.kernel.specs.declared.Answer.{Answer}

pub counted : (c : Checked) (count : ℕ) (sign : Float) {r : Answer} → AnswerIs {A = Items} (λ items. items.count) (answer_if c (items_of count sign)) r → WrittenAnswer (answer_if c count) r
unfolding ◌or_else◌
counted (Ok u) count sign p = record { number = p.number; value = p.value }
counted (Err cause) count sign p = record { number = p.number; value = p.value }
