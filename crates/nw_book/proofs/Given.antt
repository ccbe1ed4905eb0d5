-- What the reply of an answer gives was admitted.
use Rattle.nw_book.proofs.Words.{◌≡◌, ◌-◌, Some, length, subst, slice_get, Meaning, Reply, IsLegalStory, terms_of}
use Rattle.nw_model.proofs.Integrity.{GivesAdmitted, gives_what_was_admitted}
use Rattle.nw_book.specs.Answer.{AnswerView}

-- the front of the answer is legal and ends with the answer's event
pub gives : (accepts : Meaning) (told now : AnswerView) (given : Reply) → IsLegalStory accepts told.front → slice_get told.front.events (length told.front.events - 1) ≡ Some told.event
    → told ≡ now → now.event.reply ≡ given → GivesAdmitted accepts now.front.committee told.event.call given
gives accepts told now given legal last same replied =
    let all : GivesAdmitted accepts told.front.committee told.event.call told.event.reply =
    gives_what_was_admitted accepts (terms_of told.front) told.front.base told.front.events legal (length told.front.events - 1) told.event last in
    subst (GivesAdmitted accepts now.front.committee told.event.call) replied
    (subst (λ (v : AnswerView). GivesAdmitted accepts v.front.committee told.event.call v.event.reply) same all)
