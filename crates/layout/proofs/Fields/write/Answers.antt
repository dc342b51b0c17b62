-- `write` meets its contract: seven parts, one behind the other. Assumes nothing.
use Rattle.prelude.proofs.{ap, ◌∙◌, refl, [], ◌∷◌, ◌++◌, rules}
use Rattle.blocks.specs.Bytes.{put, big_endian}
use Rattle.blocks.proofs.Numbers.{big_endian-length}
use Rattle.layout.specs.Layout.{link_bytes}
use Rattle.layout.proofs.LinkBytes.{written}
use Rattle.layout.proofs.Fields.write.Goals as goal

pub returns : goal.returns
returns g c =
    let x = c.args.self.now in
    c.put_bytes-4.ensures ∙ ap (put _ _) (c.put_number-3.ensures ∙ ap (put _ _) (c.put_bytes-3.ensures ∙ ap (put _ _) (c.put_bytes-2.ensures
    ∙ ap (put _ _) (c.put_number-2.ensures ∙ ap (put _ _) (c.put_number.ensures ∙ ap (put _ _) c.put_bytes.ensures)))))
    ∙ written x.keyed g.row.K c.args.w _ _ x.number x.last _ x.ke x.km _ c.args.bytes.now c.flag.ensures (search rules) (search rules) (big_endian-length c.args.w x.word) c.requires.1 refl ∙ (λ i. link_bytes x.keyed x.number x.last x.ke x.km (big_endian c.args.w x.word ++ (c.width_byte.ensures i ∷ [])))
