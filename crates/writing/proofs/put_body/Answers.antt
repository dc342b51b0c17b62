-- `put_body` meets its contract: the three words, and the offset's if there is one. Assumes nothing.
use Rattle.prelude.proofs.{◌≡◌, sym, ap, ◌∙◌, arith, rules, SFits, w32, to_z-of_z}
use Rattle.blocks.proofs.Parts.{put-none}
use Rattle.body.specs.Signed.{residue}
use Rattle.body.specs.Words.{fields}
use Rattle.body.specs.Mark.{word_bytes, offset_word}
use Rattle.body.proofs.Writing.{written_size, written-parts}
use Rattle.writing.proofs.put_body.Goals as goal

pub returns-in-Some : goal.returns-in-Some
returns-in-Some c =
    let f : SFits w32 c.in-Some.minutes = search rules in
    let field : c.from-in-Some.result ≡ residue fields c.in-Some.minutes = grind (arith, to_z-of_z) in
    written-parts c.args.mark _ _ _ c.put_word.ensures c.put_word-2.ensures c.put_word-3.ensures c.put_word-in-Some.ensures
    (grind (arith, written_size)) c.from.ensures (ap (word_bytes 4) field ∙ ap offset_word (sym c.in-Some.is))

pub returns-in_default : goal.returns-in_default
returns-in_default c =
    written-parts c.args.mark _ _ _ c.put_word.ensures c.put_word-2.ensures c.put_word-3.ensures (sym (put-none 12 _))
    (grind (arith, written_size)) c.from.ensures (ap offset_word (sym c.in_default.is))
