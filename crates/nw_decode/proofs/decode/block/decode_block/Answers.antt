use Rattle.nw_decode.proofs.Words.{[], ◌∷◌, inl, inr, refl, sym, subst, Block, Spells}
use Rattle.nw_codec.specs.declared.message.Message.TheVariants as messages
use Rattle.nw_decode.specs.Faults.{AtTag, AtVersion}
use Rattle.nw_decode.proofs.Fronts.{later, one_field}
use Rattle.nw_decode.proofs.Fields.{exit}
use Rattle.nw_decode.proofs.decode.block.decode_block.Goals as goal

pub returns-in_err-parts : goal.returns-in_err-parts
returns-in_err-parts c = exit _ _ _ _ c.from_residual.ensures.1 (inl (later AtTag AtVersion _ _ _ (one_field AtTag AtVersion (1 ∷ []) c.args.text.now refl refl) c.in_err-parts.ensures))

pub block_of-requires : goal.block_of-requires
block_of-requires c = (c.in_ok-parts.ensures.0, c.in_ok-parts.ensures.2)

pub returns-in_err-block_of : goal.returns-in_err-block_of
returns-in_err-block_of c =
    let parts = c.in_ok-parts.ensures in
    exit _ _ _ _ c.from_residual-in_err-block_of.ensures.1 (inr (refl, inl (parts.0, c.in_ok-parts.parts.signature, parts.1)))

pub returns : goal.returns
returns c =
    let parts = c.in_ok-parts.ensures in
    subst (λ (b : Block). Spells (1 ∷ c.args.text.now) (messages.Block b c.in_ok-parts.parts.signature)) (sym (c.in_ok-block_of.ensures parts.0 parts.2)) parts.1
