-- Worked names and rows, by computation.
use Rattle.std.proofs.Common.{◌≡◌, [], ◌∷◌, codes, refl}
use Rattle.strip_text.proofs.OnLiterals.{written_on_literals}
use Rattle.strip_reports.specs.Html.{Word, Name, Number, Works, Held, Empty, escaped, row_text}

each_of_five : escaped (codes "<a> & \"b\" & 'c'") ≡ codes "&lt;a&gt; &amp; &quot;b&quot; &amp; &#39;c&#39;"
each_of_five = refl

-- what looks like an entity isn't one
entity_of_a_name : escaped (codes "&lt;") ≡ codes "&amp;lt;"
entity_of_a_name = refl

short_row : row_text (Word (codes "Total") ∷ Name (codes "A&B") ∷ Number 105 ∷ Works ∷ Held ∷ Empty ∷ [])
    ≡ codes "<tr><th>Total</th><th class=\"name\"><bdi>A&amp;B</bdi></th><td>105</td><td class=\"works\">W</td><td class=\"held\">H</td><td></td></tr>\n"
unfolding written_on_literals
short_row = refl
