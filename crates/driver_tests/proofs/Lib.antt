mod ExampleTurns
