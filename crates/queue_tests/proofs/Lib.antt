mod ExampleQueue
